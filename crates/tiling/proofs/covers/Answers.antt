-- `covers` is `tiles`: the sort leaves the rows in order, and the walk over them tells whether they tile.
use Rattle.tiling.proofs.Steps.{covers-told, covers-not}
use Rattle.tiling.proofs.covers.Goals as goal

pub returns-in-Tiled : goal.returns-in-Tiled
returns-in-Tiled c = search covers-told

pub returns-in_default : goal.returns-in_default
returns-in_default c = search covers-not
