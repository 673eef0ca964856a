-- `delta::widths::handover` meets its contract: what was summed and what the rows to come hand over is all of it (`Summed`).
use Rattle.delta.proofs.Summed.{summed-start, row_fits, sum_fits, summed-next, summed-end}
use Rattle.delta.proofs.widths.handover.Goals as goal

pub loop-i-init : goal.loop-i-init
loop-i-init c = search summed-start

pub handed_over-sum-requires-clause-width_fits : goal.handed_over-sum-requires-clause-width_fits
handed_over-sum-requires-clause-width_fits c = search row_fits

pub overflow_add-sum : goal.overflow_add-sum
overflow_add-sum c = search sum_fits

pub loop-i-preserved : goal.loop-i-preserved
loop-i-preserved c = search summed-next

pub returns : goal.returns
returns c = search summed-end
