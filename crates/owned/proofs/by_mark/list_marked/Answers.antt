-- `list_marked` meets its contract. The invariant: the list holds the ids passed that have the mark, and its rest stayed (`Written`).
use native.Mathlib.Omega.{arith}
use mathlib.Core.Path.{◌∙◌}
use Rattle.owned.proofs.Written.{written_start, written_next, written-end}
use borrow.Author.Rules.{rules}
use Rattle.owned.proofs.by_mark.list_marked.Goals as goal

pub loop-i-init : goal.loop-i-init
loop-i-init c = (search rules, search rules, search rules, written_start _ _ _ _ c.args.list.now)

pub loop-i-preserved : goal.loop-i-preserved
loop-i-preserved c =
    let e =
    written_next c.args.w.now c.args.ids.from c.args.ids.marks c.args.mark c.loop-i.i c.loop-i.len c.loop-i.list c.args.list.now _ _
    c.loop-i.invariant.3 (omega arith) c.list_one-len.ensures.list_after c.list_one-len.ensures.value in
    (search rules, omega (arith, e.1), c.list_one-len.auto.list ∙ c.loop-i.invariant.2, e.0)
