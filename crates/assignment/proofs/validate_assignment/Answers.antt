-- `validate_assignment` meets its contract: rows that are not bad fit and ascend.
use Rattle.shape.proofs.Good.{held-rows-fit, held-rows-ascend}
use Rattle.assignment.proofs.validate_assignment.Goals as goal

pub judge_each-requires : goal.judge_each-requires
judge_each-requires c = record { rows_in_bounds = search held-rows-fit; ascends = search held-rows-ascend }
