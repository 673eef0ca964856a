use Rattle.session.proofs.Held.{contained}
use Rattle.session.proofs.contains.Goals as goal

pub returns : goal.returns
returns c = search contained
