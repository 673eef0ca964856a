-- A row that was held, or has not as many held parents as the kind asks for, makes no pair; else each of these parents makes one.
use Rattle.paired.proofs.Placing.{child_held, child_unwanted, child_wanted}
use Rattle.paired.proofs.pairs.Child.place.Goals as goal

pub returns-then-contains : goal.returns-then-contains
returns-then-contains c = search child_held

pub returns-then-is_wanted : goal.returns-then-is_wanted
returns-then-is_wanted c = search child_wanted

pub returns : goal.returns
returns c = search child_unwanted
