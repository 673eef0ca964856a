-- `printing::queries::put_unprovable` meets its contract: the refusal 51, then its list.
use mathlib.Core.List.{[], ◌∷◌}
use Rattle.texts.proofs.Writing.{on, said}
use Rattle.printing.proofs.LineLaws.{refused-on}
use Rattle.texts.specs.CommaList.{listed}
use Rattle.printing.specs.Shown.{shown_unprovable}
use Rattle.printing.proofs.queries.put_unprovable.Goals as goal

pub returns : goal.returns
unfolding shown_unprovable
returns c =
    said
    (refused-on (record { number = 51; a = c.args.id; b = 0; c = 0; d = 0 }) (listed c.args.count c.args.list.now ∷ []))
    (on c.put_refused-p.ensures c.last_list.ensures)
