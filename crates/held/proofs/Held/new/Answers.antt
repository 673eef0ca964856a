-- `Held::new` meets its contract: tables that are not bad fit, ascend and have their edges.
use Rattle.std.proofs.Common.{arith, sym, ◌∙◌}
use Rattle.held.proofs.Fronts.{rows_fit, edges_fit, front_tabled}
use lib.Seq.{length-take-le}
use Rattle.held.proofs.Held.new.Goals as goal

pub overflow_mul-rows : goal.overflow_mul-rows
overflow_mul-rows c = omega (arith, rows_fit _ _ _ _ (sym c.is_bad_held.ensures ∙ c.if-is_bad_held.false))

pub slice_bounds-rows-end : goal.slice_bounds-rows-end
slice_bounds-rows-end c = sym (length-take-le _ _ (rows_fit _ _ _ _ (sym c.is_bad_held.ensures ∙ c.if-is_bad_held.false)))

pub slice_bounds-edges-end : goal.slice_bounds-edges-end
slice_bounds-edges-end c = sym (length-take-le _ _ (edges_fit _ _ _ _ (sym c.is_bad_held.ensures ∙ c.if-is_bad_held.false)))

pub invariant_of-result : goal.invariant_of-result
invariant_of-result c = record { tabled = front_tabled _ _ _ _ (sym c.is_bad_held.ensures ∙ c.if-is_bad_held.false) }
