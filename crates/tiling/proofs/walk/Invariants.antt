-- `walk` is `walk_from`. The invariant: the walk over all rows is the walk from `expected` over the rows to come. The measure is how many those are.
use mathlib.Core.Path.{◌≡◌}
use lib.ListN.{drop}
use Rattle.sorts.specs.Rows.{rows}
use Rattle.rules.specs.Tiling.{walk_from}
use Rattle.tiling.proofs.walk.Given as goal

abbrev pub invariant-loop-i : goal.invariant-loop-i
invariant-loop-i l = walk_from l.last l.first (rows l.a) ≡ walk_from l.last l.expected (drop l.i (rows l.a))
