-- A parent that was held makes one pair, another none.
use Rattle.paired.proofs.Placing.{parent_skip, parent_put}
use Rattle.paired.proofs.pairs.Child.place_parent.Goals as goal

pub returns-then-contains : goal.returns-then-contains
returns-then-contains c = search parent_put

pub returns : goal.returns
returns c = search parent_skip
