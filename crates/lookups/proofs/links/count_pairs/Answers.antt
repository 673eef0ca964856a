-- `count_pairs` meets its contract: what is counted and what the rows to come have is all of it.
use Rattle.lookups.proofs.Counted.{count_fits, count_next}
use Rattle.lookups.proofs.links.count_pairs.Goals as goal

pub overflow_add-k : goal.overflow_add-k
overflow_add-k c = rw c.count_at-k.ensures (search count_fits)

pub loop-i-preserved : goal.loop-i-preserved
loop-i-preserved c = rw c.count_at-k.ensures (search count_next)
