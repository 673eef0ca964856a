-- `printing::queries::put_unreadable` meets its contract: each need is arithmetic, a law that is imported, or what a callee promised.
use Rattle.texts.proofs.Writing.{on}
use Rattle.printing.specs.Shown.{shown_unreadable}
use Rattle.printing.proofs.queries.put_unreadable.Goals as goal

pub returns : goal.returns
unfolding shown_unreadable
returns c = on c.put_byte-p.ensures c.last_number.ensures
