use Rattle.crossing.proofs.Words.{accepted-is, refused-is}
use Rattle.crossing.proofs.answer.refusal_of.Goals as goal

pub returns-in-Ok : goal.returns-in-Ok
returns-in-Ok c = search accepted-is

pub returns-in-Err : goal.returns-in-Err
returns-in-Err c = search refused-is
