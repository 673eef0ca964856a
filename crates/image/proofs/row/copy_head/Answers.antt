-- `copy_head` meets its contract: the words are copied as they stand, then both optional fields are fixed inside the copy.
use Rattle.image.proofs.Words.{head-copied}
use Rattle.image.proofs.row.copy_head.Goals as goal

pub returns : goal.returns
returns c = head-copied c.args.w.now c.args.table.now c.args.at c.args.from c.requires.head_fits c.requires.head_in_table c.copy_into.new.dst c.fix_option.new.w c.fix_option-2.new.w c.copy_into.ensures c.fix_option.ensures c.fix_option-2.ensures
