-- `delta::widths::handed_over` meets its contract: a row that was held hands nothing over, another its width if it is Active.
use Rattle.delta.proofs.Summed.{one-fits, handed-none, handed-one}
use Rattle.delta.proofs.widths.handed_over.Goals as goal

pub returns-then-contains : goal.returns-then-contains
returns-then-contains c = search handed-none

pub active_width-requires : goal.active_width-requires
active_width-requires c = search one-fits

pub returns : goal.returns
returns c = search handed-one
