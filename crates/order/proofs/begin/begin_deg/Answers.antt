-- `order::begin::begin_deg` meets its contract: after i turns the first i words are degrees, and those from n on are as they were.
use mathlib.Core.Path.{refl, ◌∙◌}
use Prim.Native.Nat.{zero-le, ◌<◌}
use native.Mathlib.Omega.{arith}
use lib.ListN.{length-set}
use lib.Seq.{drop-set-lt}
use Rattle.order.proofs.AreaStart.{deg-is, deg-le}
use Rattle.order.proofs.TabLaws.{tab-more, tab-none}
use Rattle.order.proofs.begin.begin_deg.Goals as goal

pub loop-i-init : goal.loop-i-init
loop-i-init c = (zero-le, refl, tab-none _ c.args.w.now, refl)

pub overflow_sub-w : goal.overflow_sub-w
overflow_sub-w c = deg-le c.args.n c.args.m c.loop-i.i c.args.w.now c.loop-i.w c.requires (omega arith) c.loop-i.invariant.3

pub loop-i-preserved : goal.loop-i-preserved
loop-i-preserved c =
    let h : c.loop-i.i < c.args.n = omega arith in (
      omega arith,
      length-set c.loop-i.w c.loop-i.i _ ∙ c.loop-i.invariant.1,
      tab-more _ c.loop-i.w c.loop-i.i _ (omega (arith, c.requires.room))
          (deg-is c.args.n c.args.m c.loop-i.i c.args.w.now c.loop-i.w c.requires h c.loop-i.invariant.3) c.loop-i.invariant.2,
      drop-set-lt c.args.n c.loop-i.w c.loop-i.i _ h ∙ c.loop-i.invariant.3,
    )
