-- `printing::updates::put_changes` meets its contract: each need is arithmetic, a law that is imported, or what a callee promised.
use mathlib.Core.List.{[], ◌∷◌}
use Rattle.printing.proofs.LineLaws.{field}
use Rattle.texts.specs.Decimal.{decimal}
use Rattle.printing.specs.Shown.{letter_of, merges_listed}
use Rattle.printing.proofs.updates.put_changes.Goals as goal

pub returns : goal.returns
returns c =
    let h = decimal c.args.d.handover ∷ [] in
    let r = (letter_of c.args.d.reason ∷ []) ∷ h in
    let m = merges_listed c.args.d.merges c.args.merges.now ∷ r in
    field
    m
    (10 ∷ [])
    c.field_pairs-p.ensures
    (field r (10 ∷ []) c.field_pairs-q.ensures (field h (10 ∷ []) c.field_reason-s.ensures c.last_number.ensures))
