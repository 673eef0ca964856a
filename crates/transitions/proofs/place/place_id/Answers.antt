-- `place_id` puts the range of the segment with that id, if there is one: the row that the search finds is the segment that the rule looks up.
use Rattle.transitions.proofs.Rowed.{found-row}
use Rattle.transitions.proofs.Placing.{grown-none, grown-some}
use Rattle.transitions.proofs.place.place_id.Goals as goal

pub place_row-requires-clause-below : goal.place_row-requires-clause-below
place_row-requires-clause-below c = found-row c.args.held.now c.args.id _ c.in-Some.ensures

pub returns-in-Some : goal.returns-in-Some
returns-in-Some c = grown-some c.args.held.now c.args.id _ _ _ c.in-Some.ensures _ c.place_row.ensures

pub returns-in-None : goal.returns-in-None
returns-in-None c = grown-none c.args.held.now c.args.id _ _ c.in-None.ensures
