-- `parent_count` is `parent_count` of the segment with that id: the row that the search finds says how long its parents' stretch is.
use Rattle.transitions.proofs.Rowed.{found-row}
use Rattle.transitions.proofs.Forked.{count_none, count-some}
use Rattle.transitions.proofs.forks.parent_count.Goals as goal

pub parent_count-requires : goal.parent_count-requires
parent_count-requires c = found-row c.args.held.now c.args.id _ c.in-Some.ensures

pub returns-in-Some : goal.returns-in-Some
returns-in-Some c = count-some c.args.held.now c.args.id _ _ c.in-Some.ensures c.parent_count.ensures

pub returns-in-None : goal.returns-in-None
returns-in-None c = count_none c.args.held.now c.args.id c.in-None.ensures
