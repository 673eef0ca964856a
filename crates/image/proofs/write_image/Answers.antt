-- `write_image` meets its contract: rows and edges are one part, and the rows leave the index as it was.
use Rattle.image.proofs.HeldWords.{rows-kept, image-written}
use borrow.Author.Rules.{rules}
use Rattle.image.proofs.write_image.Goals as goal

pub write_edges-requires : goal.write_edges-requires
write_edges-requires c = record { rows_in_table = search rules; counts_match = search rules; image_before = search rules; index_in_area = search rules; indexed = search rows-kept }

pub returns : goal.returns
returns c = search image-written
