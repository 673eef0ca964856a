-- 28 to 35 over segments that ascend by id: what the rule book says of any list (`order_rule`, `transitions_rule`, `coverage_rule`), without the sort.
-- Assumes nothing.
use Rattle.std.specs.Prelude.{ℕ, List, [], map}
use Rattle.answers.specs.Answer.{◌then◌, Judged}
use Rattle.rules.specs.Model.{Segment}
use Rattle.rules.specs.Order.{node_of, Ordered, order_from, ordered_rule}
use Rattle.rules.specs.Tiling.{forks_from, joins_from, active_of, coverage_rule}

-- the order of n segments
abbrev pub order_in : ℕ → ℕ → List Segment → Ordered
order_in depth n S = order_from depth n [] (map node_of S)

-- 30 to 35
unfoldable pub ranges_in : List Segment → Judged
ranges_in S =
    (forks_from S S then joins_from S S) then
    coverage_rule (active_of S)

-- 28 to 35
unfoldable pub graph_in : ℕ → ℕ → List Segment → Judged
graph_in depth n S =
    ordered_rule depth (order_in depth n S) then
    ranges_in S
