-- `has_wrong_counts` meets its contract. The invariant: the counts of all rows and what is left are the counts of the rows to come and `len`.
use Rattle.shape.proofs.Counts.{counts_next}
use Rattle.shape.proofs.rows.has_wrong_counts.Goals as goal

pub loop-i-preserved : goal.loop-i-preserved
loop-i-preserved c = search counts_next
