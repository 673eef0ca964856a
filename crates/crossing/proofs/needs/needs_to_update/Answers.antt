use Rattle.crossing.proofs.Capped.{update-needs}
use Rattle.crossing.proofs.needs.needs_to_update.Goals as goal

pub returns : goal.returns
returns c = search update-needs
