-- What its two halves say of the rows of the image they say of its segments (Told).
use Rattle.delta.proofs.Told.{table_rows, bare-widths, told-changed, told-delta}
use Rattle.delta.proofs.write_delta.Goals as goal

pub invariant_of-rows : goal.invariant_of-rows
invariant_of-rows c = record { ascend = search table_rows }

pub write_moved-moved-requires-clause-widths_fit : goal.write_moved-moved-requires-clause-widths_fit
write_moved-moved-requires-clause-widths_fit c = search bare-widths

pub returns-clause-value : goal.returns-clause-value
returns-clause-value c = search (told-delta, c.args.image.now.tabled, c.write_moved-moved.ensures.added, c.write_moved-moved.ensures.removed, c.write_moved-moved.ensures.handover, c.write_paired-paired.ensures.splits, c.write_paired-paired.ensures.merges, c.change_reason.ensures)

pub returns-clause-written : goal.returns-clause-written
returns-clause-written c = search (told-changed, c.args.image.now.tabled, c.write_moved-moved.ensures.written, c.write_paired-paired.ensures.written)
