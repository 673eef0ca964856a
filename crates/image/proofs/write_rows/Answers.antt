-- `write_rows` meets its contract: after p turns the words of the first p keys stand at the front, and both indexes are as they were.
use Rattle.image.proofs.Rows.{row_kept, rows_next, rows_end}
use borrow.Author.Rules.{rules}
use Rattle.image.proofs.write_rows.Goals as goal

pub loop-p-preserved : goal.loop-p-preserved
loop-p-preserved c = (search rules, search rules, search rows_next, search row_kept)

pub returns : goal.returns
returns c = search rows_end
