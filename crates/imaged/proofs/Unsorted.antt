-- The segments of the image are those of the input tables in ascending order, and 24 to 35 say the same of both.
-- Assumes nothing.
use Prim.Native.Nat.{ℕ}
use mathlib.Core.Path.{◌≡◌, refl, sym, ap, ◌∙◌}
use mathlib.Core.List.{List, [], map}
use lib.ListN.{length}
use Rattle.answers.specs.Answer.{◌then◌}
use Rattle.rules.specs.Model.{Segment, by_id}
use Rattle.rules.specs.Edges.{links_from, edges_rule}
use Rattle.rules.specs.Order.{node_of, order_from, order_of, order_rule}
use Rattle.rules.specs.Tiling.{transitions_rule, active_of, coverage_rule}
use Rattle.rules.proofs.Ascended.{links-by_id, forks-by_id, joins-by_id, active-by_id, length-by_id}
use Rattle.imaged.specs.Judging.{order_in, ranges_in, graph_in}

links-sorted : (ss : List Segment) → links_from (by_id ss) (by_id ss) ≡ edges_rule ss
unfolding edges_rule
links-sorted ss = links-by_id ss (by_id ss)

ranges-sorted : (ss : List Segment) → ranges_in (by_id ss) ≡ (transitions_rule ss then coverage_rule (active_of ss))
unfolding ranges_in transitions_rule
ranges-sorted ss = rw (forks-by_id ss (by_id ss), joins-by_id ss (by_id ss), active-by_id ss) refl

order-sorted : (depth n : ℕ) (ss : List Segment) → length (by_id ss) ≡ n → order_in depth n (by_id ss) ≡ order_of depth ss
unfolding order_of
order-sorted depth n ss size = ap (λ (k : ℕ). order_from depth k [] (map node_of (by_id ss))) (sym size ∙ length-by_id ss)

graph-sorted : (depth n : ℕ) (ss : List Segment) → length (by_id ss) ≡ n → graph_in depth n (by_id ss) ≡ (order_rule depth ss then transitions_rule ss then coverage_rule (active_of ss))
unfolding graph_in order_rule
graph-sorted depth n ss size = rw (order-sorted depth n ss size, ranges-sorted ss) refl

module _ (S ss : List Segment) (same : S ≡ by_id ss) where
  pub links-same : links_from S S ≡ edges_rule ss
  links-same = rw same (links-sorted ss)

  module _ (depth n : ℕ) (size : length S ≡ n) where
    pub order_same : order_in depth n S ≡ order_of depth ss
    order_same = rw same (order-sorted depth n ss (ap length (sym same) ∙ size))

    pub graph_same : graph_in depth n S ≡ (order_rule depth ss then transitions_rule ss then coverage_rule (active_of ss))
    graph_same = rw same (graph-sorted depth n ss (ap length (sym same) ∙ size))
