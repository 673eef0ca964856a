use Rattle.crossing.proofs.Capped.{ordering-needs}
use Rattle.crossing.proofs.needs.needs_to_order.Goals as goal

pub returns : goal.returns
returns c = search ordering-needs
