-- `index_pairs` meets its contract: the pairs, and then their sort.
use Rattle.lookups.proofs.Filled.{index_is}
use Rattle.lookups.proofs.links.index_pairs.Goals as goal

pub returns : goal.returns
returns c = search index_is
