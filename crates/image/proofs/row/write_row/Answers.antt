-- `write_row` meets its contract: the site is looked up before a word is written, so the index is as it was; then head and site are one part.
use Rattle.image.proofs.Found.{row_done}
use Rattle.image.proofs.row.write_row.Goals as goal

pub returns : goal.returns
returns c = search row_done
