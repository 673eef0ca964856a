-- `index_rows` meets its contract: the keys, and then their sort.
use Rattle.indexes.proofs.Fill.{index_is}
use Rattle.indexes.proofs.index_rows.Goals as goal

pub returns : goal.returns
returns c = search index_is
