use Rattle.shape.proofs.Good.{held-rows-fit, held-rows-ascend}
use Rattle.words.proofs.TableLaws.{unsearched, searched}
use Rattle.session.proofs.find_held.Goals as goal

pub returns-then-is_bad_held_rows : goal.returns-then-is_bad_held_rows
returns-then-is_bad_held_rows c = search unsearched

pub find_row-requires-clause-width_in_bounds : goal.find_row-requires-clause-width_in_bounds
find_row-requires-clause-width_in_bounds c = search held-rows-fit

pub find_row-requires-clause-ascends : goal.find_row-requires-clause-ascends
find_row-requires-clause-ascends c = search held-rows-ascend

pub returns : goal.returns
returns c = search searched
