-- An id that was held counts, another does not.
use Rattle.paired.proofs.Placing.{count-start, count-hit, count-miss}
use borrow.Author.Rules.{rules}
use Rattle.paired.proofs.pairs.Child.count_held.Goals as goal
use Rattle.paired.proofs.pairs.Child.count_held.Goals.{then-contains, else-contains}

pub loop-id-init : goal.loop-id-init
loop-id-init c = (search rules, search rules, search count-start)

pub loop-id-preserved : goal.loop-id-preserved
loop-id-preserved c = elim c.if-contains.branch [ then-contains w ↦ (search rules, search rules, search count-hit) | else-contains w ↦ (search rules, search rules, search count-miss) ]
