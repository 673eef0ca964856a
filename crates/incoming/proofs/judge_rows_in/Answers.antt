-- `judge_rows_in` meets its contract: the index and the flags are a stage (proofs/Staged), and `judge_rows` says the rest.
use Rattle.incoming.proofs.Staged.{index_stays}
use Rattle.incoming.proofs.judge_rows_in.Goals as goal

pub returns-clause-indexed : goal.returns-clause-indexed
returns-clause-indexed c = search index_stays
