-- `walk_end` is `walk_end`: a row is left, or none is.
use Rattle.tiling.proofs.Steps.{end-left, end_none}
use Rattle.tiling.proofs.walk_end.Goals as goal

pub returns-then-i-n : goal.returns-then-i-n
returns-then-i-n c = search end-left

pub returns : goal.returns
returns c = search end_none
