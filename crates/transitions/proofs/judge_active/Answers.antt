-- `judge_active` is `coverage_rule` of the Active segments: their ranges stand, and `judge_coverage` judges them.
use Rattle.std.proofs.Common.{arith, ap, ◌∙◌}
use Rattle.sorts.proofs.RowLaws.{rows_take}
use Rattle.rules.specs.Tiling.{coverage_rule}
use Rattle.transitions.proofs.judge_active.Goals as goal

pub returns : goal.returns
returns c =
    c.judge_coverage.ensures ∙ ap coverage_rule (rows_take c.place_active-k.result c.place_active-k.new.scratch (omega (arith, c.place_active-k.ensures.few, c.requires)) ∙ c.place_active-k.ensures.placed)
