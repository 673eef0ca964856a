-- `judge_coverage` is `coverage_rule`: no row is 33, else the walk over the sorted rows says 34 or 35.
use Rattle.tiling.proofs.Steps.{coverage-walk}
use Rattle.tiling.proofs.judge_coverage.Goals as goal

pub returns : goal.returns
returns c = search coverage-walk
