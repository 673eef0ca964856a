-- `order::begin::begin_slots` meets its contract: after i turns the first i slots are those of the degrees, and only the tree's words changed.
use mathlib.Core.Path.{refl, ◌∙◌}
use Prim.Native.Nat.{zero-le, ◌<◌}
use native.Mathlib.Omega.{arith}
use lib.ListN.{drop}
use Rattle.order.specs.Area.{tree_in}
use Rattle.order.proofs.AreaSlots.{beside-both, beside_same}
use Rattle.order.proofs.AreaStart.{slot_next}
use Rattle.order.proofs.TabLaws.{tab-none}
use Rattle.order.proofs.begin.begin_slots.Goals as goal

pub loop-i-init : goal.loop-i-init
loop-i-init c =
    (zero-le, refl, c.clear_slots.ensures.tree, beside_same c.args.n _, tab-none _ (drop c.args.n (tree_in c.args.n c.clear_slots.new.w)))

pub loop-i-preserved : goal.loop-i-preserved
loop-i-preserved c =
    let h : c.loop-i.i < c.args.n = c.loop-i-test.true in (
      omega arith,
      c.set_slot.auto.w ∙ c.loop-i.invariant.1,
      c.set_slot.ensures.tree,
      beside-both c.args.n _ c.loop-i.w _ c.loop-i.invariant.3 c.set_slot.ensures.beside,
      slot_next c.args.n c.loop-i.i c.slot.result c.clear_slots.new.w c.loop-i.w c.set_slot.new.w c.loop-i.invariant.3 c.loop-i.invariant.2
          h c.slot.ensures c.loop-i.invariant.4 c.set_slot.ensures.slot,
    )
