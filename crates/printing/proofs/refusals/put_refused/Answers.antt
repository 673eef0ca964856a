-- `printing::refusals::put_refused` meets its contract: each need is arithmetic, a law that is imported, or what a callee promised.
use Rattle.texts.proofs.Writing.{on}
use Rattle.printing.proofs.refusals.put_refused.Goals as goal

pub returns : goal.returns
returns c =
    on
    c.put_byte-p.ensures
    (on c.field_number-q.ensures c.put_values.ensures)
