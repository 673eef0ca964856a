-- `has_bad_next_or_counts` meets its contract. The invariant is that of `has_bad_next` and that of `has_wrong_counts`.
use Rattle.shape.proofs.Counts.{counts_next}
use Rattle.shape.proofs.Scan.{any_next}
use Rattle.shape.proofs.rows.has_bad_next_or_counts.Goals as goal

pub loop-i-preserved : goal.loop-i-preserved
loop-i-preserved c = (search any_next, search counts_next)
