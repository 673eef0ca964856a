-- `answer_managed` meets its contract: one law of `Telling` for each way out.
use Rattle.query.proofs.Telling.{managed-blocked, managed-read, managed-eligible}
use Rattle.query.proofs.answer.answer_managed.Goals as goal

pub returns-then-incomplete-gt0 : goal.returns-then-incomplete-gt0
returns-then-incomplete-gt0 c = search managed-blocked

pub returns-then-remote-gt0 : goal.returns-then-remote-gt0
returns-then-remote-gt0 c = search managed-read

pub returns : goal.returns
returns c = search managed-eligible
