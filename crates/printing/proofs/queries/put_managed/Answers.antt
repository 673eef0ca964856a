-- `printing::queries::put_managed` meets its contract: each need is arithmetic, a law that is imported, or what a callee promised.
use Rattle.texts.proofs.Writing.{on}
use Rattle.printing.specs.Shown.{shown_managed}
use Rattle.printing.proofs.queries.put_managed.Goals as goal

pub returns : goal.returns
unfolding shown_managed
returns c = on c.put_byte-p.ensures c.last_list.ensures
