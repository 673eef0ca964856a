-- `index_places` meets its contract: the keys, and then their sort.
use Rattle.indexes.proofs.Fill.{place_index_is}
use Rattle.indexes.proofs.index_places.Goals as goal

pub returns : goal.returns
returns c = search place_index_is
