-- `printing::updates::put_accepted` meets its contract: each need is arithmetic, a law that is imported, or what a callee promised.
use mathlib.Core.List.{[], ◌∷◌}
use Rattle.texts.proofs.Writing.{on}
use Rattle.printing.proofs.LineLaws.{field}
use Rattle.texts.specs.CommaList.{listed}
use Rattle.printing.specs.Shown.{change_fields, shown_accepted}
use Rattle.printing.proofs.updates.put_accepted.Goals as goal

pub returns : goal.returns
unfolding shown_accepted
returns c =
    let l = c.args.left.now in
    let s = change_fields c.args.d l.splits.now l.merges.now in
    let r = listed c.args.d.removed l.removed.now ∷ s in
    let p = listed c.args.d.added l.added.now ∷ r in
    let o = listed l.rows l.order.now ∷ p in
    on
    c.put_byte-a.ensures
    (field o (10 ∷ []) c.field_number-e.ensures (field p (10 ∷ []) c.field_list-o.ensures (field r (10 ∷ []) c.field_list-p.ensures (field s (10 ∷ []) c.field_list-q.ensures c.put_changes.ensures))))
