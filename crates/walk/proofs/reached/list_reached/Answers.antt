-- `list_reached` meets its contract. The invariant: of the rows passed, the ids of those that were reached are listed.
use native.Mathlib.Omega.{arith}
use mathlib.Core.Path.{◌∙◌, refl}
use Rattle.walk.proofs.Scanning.{scan-start, scan_step}
use borrow.Author.Rules.{rules}
use Rattle.walk.proofs.reached.list_reached.Goals as goal

pub loop-i-init : goal.loop-i-init
loop-i-init c =
    (omega arith, omega arith, refl, refl, scan-start c.args.held.now.rows.now c.args.held.now.count c.args.b c.args.w.now c.requires.0)

pub loop-i-preserved : goal.loop-i-preserved
loop-i-preserved c =
    let e =
    scan_step c.args.held.now.rows.now c.args.held.now.count c.args.b c.args.w.now c.requires.0 c.loop-i.i c.loop-i.k c.loop-i.w
    (omega (arith, c.requires.1, c.loop-i.invariant.1, c.loop-i.invariant.2, c.loop-i-test.true)) c.loop-i.invariant.3
    c.loop-i-test.true c.loop-i.invariant.1 c.loop-i.invariant.4 _ _ c.list_row-k.ensures.w_after c.list_row-k.ensures.value in
    (search rules, e.0, c.list_row-k.auto.w ∙ c.loop-i.invariant.2, e.1, e.2)
