-- `judge_placements_in` meets its contract: the index and the flags are a stage (proofs/Staged), and `judge_placements` says the rest.
use Rattle.incoming.proofs.Staged.{index_stays, places-flagged}
use borrow.Author.Rules.{rules}
use Rattle.incoming.proofs.judge_placements_in.Goals as goal

pub judge_placements-requires-clause-twins : goal.judge_placements-requires-clause-twins
judge_placements-requires-clause-twins c = search (rules, places-flagged)

pub returns-clause-indexed : goal.returns-clause-indexed
returns-clause-indexed c = search (rules, index_stays)
