-- `printing::queries::put_blocked` meets its contract: each need is arithmetic, a law that is imported, or what a callee promised.
use mathlib.Core.List.{[], ◌∷◌}
use Rattle.texts.proofs.Writing.{on}
use Rattle.printing.proofs.LineLaws.{field}
use Rattle.texts.specs.CommaList.{listed}
use Rattle.printing.specs.Shown.{shown_blocked}
use Rattle.printing.proofs.queries.put_blocked.Goals as goal

pub returns : goal.returns
unfolding shown_blocked
returns c =
    on
    c.put_byte-p.ensures
    (field (listed c.args.m c.args.second.now ∷ []) (10 ∷ []) c.field_list-q.ensures c.last_list.ensures)
