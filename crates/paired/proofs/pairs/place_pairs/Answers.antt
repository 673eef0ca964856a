-- The pairs of the first i rows are placed (`Gathered`), and then those of the next one.
use Rattle.paired.proofs.Gathered.{gathered-start, parents-within, parents-fit, pairs-room, gathered_next, gathered-end, gathered-few}
use borrow.Author.Rules.{rules}
use Rattle.paired.proofs.pairs.place_pairs.Goals as goal

pub loop-i-init : goal.loop-i-init
loop-i-init c = (search rules, search gathered-start)

pub overflow_add-end : goal.overflow_add-end
overflow_add-end c = search parents-fit

pub slice_bounds-place-end : goal.slice_bounds-place-end
slice_bounds-place-end c = search parents-within

pub place-k-requires : goal.place-k-requires
place-k-requires c = search pairs-room

pub loop-i-preserved : goal.loop-i-preserved
loop-i-preserved c = (search rules, search gathered_next)

pub returns : goal.returns
returns c = record { placed = search gathered-end; at_most_edges = search gathered-few }
