-- `judge_edge` meets its contract: the row that the search finds is the one of the rule.
use borrow.Author.Rules.{rules}
use Rattle.edges.proofs.Told.{row_below, edge_told, edge_nowhere}
use Rattle.edges.proofs.judge_edge.Goals as goal

pub judge_found-requires : goal.judge_found-requires
judge_found-requires c = search (rules, row_below)

pub returns-in-Some : goal.returns-in-Some
returns-in-Some c = search edge_told

pub returns-in-None : goal.returns-in-None
returns-in-None c = search edge_nowhere
