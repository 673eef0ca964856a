-- `reading::lists::read_list` meets its contract: what is measured can be written whole.
use Rattle.reading.proofs.Whole.{written}
use Rattle.reading.proofs.lists.read_list.Goals as goal

pub returns-then-n-gt0-clause-written : goal.returns-then-n-gt0-clause-written
returns-then-n-gt0-clause-written c = written _ _ _ _ _ _ c.list_length.ensures c.in_ok-n.was c.if-n-gt0.true c.write_items.ensures
