-- `walk` is `walk_from`. The invariant: the walk over all rows is the walk from `expected` over the rows to come. The measure is how many those are.
use Rattle.tiling.proofs.Steps.{walk-broken, walk_ends, walk-short, walk-next}
use Rattle.tiling.proofs.walk.Goals as goal

pub returns-then-is_misfit : goal.returns-then-is_misfit
returns-then-is_misfit c = search walk-broken

pub returns-then-end-last : goal.returns-then-end-last
returns-then-end-last c = search walk_ends

pub loop-i-preserved : goal.loop-i-preserved
loop-i-preserved c = search walk-next

pub returns : goal.returns
returns c = search walk-short
