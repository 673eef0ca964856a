-- `mark_pairs` meets its contract: after p turns the flags are those that the first p rows of the index mark, and nothing else has changed.
use Rattle.indexes.proofs.Marked.{done}
use Rattle.indexes.proofs.twins.mark_pairs.Goals as goal

pub returns : goal.returns
returns c = search done
