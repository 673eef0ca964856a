-- `fill_rows` meets its contract: a row's edges lie within all rows' edges, which are counted by a word.
use Rattle.indexes.proofs.Fill.{place-fits, place-fits-2}
use Rattle.indexes.proofs.fill_rows.Goals as goal

pub overflow_add-at-in-loop-i : goal.overflow_add-at-in-loop-i
overflow_add-at-in-loop-i c = search place-fits

pub overflow_add-at-in-loop-i-3 : goal.overflow_add-at-in-loop-i-3
overflow_add-at-in-loop-i-3 c = search place-fits-2
