-- `place_row` puts the range of a row behind those that stand.
use Rattle.transitions.proofs.Placing.{grown}
use Rattle.transitions.proofs.place.place_row.Goals as goal

pub returns : goal.returns
returns c = grown _ _ _ _ c.requires.range_fits c.put3.ensures
