-- The two passes over all rows, by the side that is judged: the children of a row (30, 31) or its parents (32).
-- Assumes nothing.
use Rattle.std.specs.Prelude.{List}
use Rattle.answers.specs.Answer.{Judged}
use Rattle.types.specs.declared.records.Side.{Side}
use Rattle.types.specs.declared.records.Side.TheVariants.{Parents, Children}
use Rattle.rules.specs.Model.{Segment}
use Rattle.rules.specs.Tiling.{fork_rule, forks_from, join_rule, joins_from}

abbrev pub edges_rule : Side → List Segment → Segment → Judged
edges_rule Children = fork_rule
edges_rule Parents = join_rule

abbrev pub edges_from : Side → List Segment → List Segment → Judged
edges_from Children = forks_from
edges_from Parents = joins_from
