use Rattle.assignment.proofs.Told.{row_below, record-at, record-nowhere}
use borrow.Author.Rules.{rules}
use Rattle.assignment.proofs.judge_record.Goals as goal

pub judge_found-requires : goal.judge_found-requires
judge_found-requires c = search (rules, row_below)

pub returns-in-Some : goal.returns-in-Some
returns-in-Some c = search record-at

pub returns-in-None : goal.returns-in-None
returns-in-None c = search record-nowhere
