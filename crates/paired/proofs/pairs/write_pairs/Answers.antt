-- Placed as rows of three words the pairs are sorted as pairs are.
use Rattle.paired.specs.Pairs.{ascending_pairs}
use Rattle.paired.proofs.Sorting.{written_count, written_is}
use Rattle.paired.proofs.pairs.write_pairs.Goals as goal

pub returns : goal.returns
unfolding ascending_pairs
returns c = record { count = search written_count; written = search written_is }
