-- `delta::widths::active_width` meets its contract, case by case.
use Rattle.delta.proofs.Summed.{width-sealed, width-active, width-reversed, width_fits}
use Rattle.delta.proofs.widths.active_width.Goals as goal

pub returns-then-state-ne1 : goal.returns-then-state-ne1
returns-then-state-ne1 c = search width-sealed

pub returns-then-end-start : goal.returns-then-end-start
returns-then-end-start c = search width-reversed

pub overflow_add-result : goal.overflow_add-result
overflow_add-result c = search width_fits

pub returns : goal.returns
returns c = search width-active
