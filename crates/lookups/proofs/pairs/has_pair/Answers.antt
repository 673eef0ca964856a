-- `has_pair` meets its contract: the row at the place that the search gives is the pair, or no row is.
use Rattle.lookups.proofs.Between.{has_here}
use Rattle.lookups.proofs.pairs.has_pair.Goals as goal

pub returns-then-pairs-p : goal.returns-then-pairs-p
returns-then-pairs-p c = search has_here
