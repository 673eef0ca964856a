-- `raise_one` meets its contract: ids that ascend have one place for x, or none.
use native.Mathlib.Omega.{arith}
use Rattle.owned.proofs.Raising.{one-asks, hit-room, one_hit, one-miss}
use Rattle.owned.proofs.marks.raise_one.Goals as goal

pub find_row-found-requires : goal.find_row-found-requires
find_row-found-requires c =
    let e = one-asks c.args.ids.from c.args.ids.marks c.args.ids.count c.args.w.now c.args.ids.behind c.requires.0 c.requires.1 in
    record { width_nonzero = e.0; width_in_bounds = e.1.0; ascends = e.1.1 }

pub overflow_add-ids-in-Some : goal.overflow_add-ids-in-Some
overflow_add-ids-in-Some c = omega (arith, hit-room c.args.x c.args.from c.args.to c.args.ids.from c.args.ids.marks c.args.ids.count c.args.w.now c.args.ids.behind c.requires.0 c.requires.1 c.find_row-found.result c.find_row-found.ensures _ c.in-Some.is)

pub raise_word-requires : goal.raise_word-requires
raise_word-requires c = hit-room c.args.x c.args.from c.args.to c.args.ids.from c.args.ids.marks c.args.ids.count c.args.w.now c.args.ids.behind c.requires.0 c.requires.1 c.find_row-found.result c.find_row-found.ensures _ c.in-Some.is

pub returns-in-Some : goal.returns-in-Some
returns-in-Some c = one_hit c.args.x c.args.from c.args.to c.args.ids.from c.args.ids.marks c.args.ids.count c.args.w.now c.args.ids.behind c.requires.0 c.requires.1 c.find_row-found.result c.find_row-found.ensures _ c.in-Some.is _ c.raise_word.ensures

pub returns-in_default : goal.returns-in_default
returns-in_default c =
    one-miss c.args.x c.args.from c.args.to c.args.ids.from c.args.ids.marks c.args.ids.count c.args.w.now c.args.ids.behind c.requires.0 c.requires.1
    c.find_row-found.result c.find_row-found.ensures c.in_default.is
