-- `write_edges` meets its contract: after p turns the edges of the first p keys stand behind the rows, and `at` is the place behind them.
use Rattle.image.proofs.KeyWords.{key_room}
use Rattle.image.proofs.Edges.{from-room, edge-room, edges-kept, count_next, edges-next, edges-end}
use borrow.Author.Rules.{rules}
use Rattle.image.proofs.write_edges.Goals as goal

pub copy_edges-at-requires : goal.copy_edges-at-requires
copy_edges-at-requires c = record { rows_in_table = search key_room; edges_in_table = search from-room; edges_have_room = search edge-room }

pub loop-p-preserved : goal.loop-p-preserved
loop-p-preserved c = (search rules, search rules, search edges-kept, search count_next, search edges-next)

pub returns : goal.returns
returns c = search edges-end
