-- Document 01, "Order of checks", the whole of a layout after 1 and 2: the first refusal of this chain.
-- Assumes nothing.
use Rattle.std.specs.Prelude.{ℕ, List, length}
use Rattle.answers.specs.Answer.{◌then◌, Judged}
use Rattle.types.specs.declared.limits.DagLimits.{DagLimits}
use Rattle.rules.specs.Model.{Segment, Placement}
use Rattle.rules.specs.Rows.{size_rule, placements_rule, rows_rule, dangling_rule}
use Rattle.rules.specs.Edges.{edges_rule}
use Rattle.rules.specs.Order.{order_rule}
use Rattle.rules.specs.Tiling.{transitions_rule, active_of, coverage_rule}

-- 28 to 35: what the graph of the segments says
unfoldable pub graph_rule : DagLimits → List Segment → Judged
graph_rule limits ss =
    order_rule limits.depth ss then
    transitions_rule ss then
    coverage_rule (active_of ss)

unfoldable pub layout_rule : ℕ → ℕ → DagLimits → List Segment → List Placement → Judged
layout_rule epoch size limits ss ps =
    size_rule limits size (length ss) (length ps) then
    placements_rule ps then
    rows_rule epoch limits.edges ss then
    dangling_rule ss ps then
    edges_rule ss then
    graph_rule limits ss
