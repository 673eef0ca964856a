-- `printing::fields::field_pairs` meets its contract: each need is arithmetic, a law that is imported, or what a callee promised.
use Rattle.texts.proofs.Writing.{on}
use Rattle.printing.proofs.fields.field_pairs.Goals as goal

pub returns : goal.returns
returns c = on c.put_byte-p.ensures c.put_pairs.ensures
