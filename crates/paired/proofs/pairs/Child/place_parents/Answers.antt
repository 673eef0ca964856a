-- The pairs with the first parents are placed, and then those with the next one.
use Rattle.paired.proofs.Placing.{parents-start, parents-room, parents-next}
use borrow.Author.Rules.{rules}
use Rattle.paired.proofs.pairs.Child.place_parents.Goals as goal

pub loop-parent-init : goal.loop-parent-init
loop-parent-init c = (search rules, search parents-start)

pub place_parent-r-requires : goal.place_parent-r-requires
place_parent-r-requires c = search parents-room

pub loop-parent-preserved : goal.loop-parent-preserved
loop-parent-preserved c = (search rules, search parents-next)
