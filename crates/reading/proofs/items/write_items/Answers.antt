-- `reading::items::write_items` meets its contract. The invariant: the words written, and those that the rest puts behind them, are all that the field puts there.
use lib.ListN.{length-set}
use Rattle.reading.proofs.Parts.{to-fits}
use Rattle.reading.proofs.Filling.{still_drops, stopped, last_written, next-written, full, unwritten}
use native.Mathlib.Omega.{arith}
use mathlib.Core.Path.{refl}
use Prim.Native.Nat.{◌<◌, ◌≤◌}
use lib.ListN.{length}
use borrow.Author.Rules.{rules}
use Rattle.reading.proofs.items.write_items.Goals as goal

pub loop-n-init : goal.loop-n-init
loop-n-init c = (search rules, search rules, refl, refl, search unwritten)

pub returns-in_default : goal.returns-in_default
returns-in_default c =
    let more : c.loop-n.n < length c.loop-n.words = omega arith in search stopped

pub returns-then-to-field : goal.returns-then-to-field
returns-then-to-field c =
    let more : c.loop-n.n < length c.loop-n.words = omega arith in search last_written

pub overflow_add-from : goal.overflow_add-from
overflow_add-from c = omega (arith, to-fits c.args.field.now c.loop-n.from c.end_of-to.result 44 c.end_of-to.ensures c.loop-n.invariant.0)

pub loop-n-preserved : goal.loop-n-preserved
loop-n-preserved c =
    let more : c.loop-n.n < length c.loop-n.words = omega arith in (
      omega (arith, to-fits c.args.field.now c.loop-n.from c.end_of-to.result 44 c.end_of-to.ensures c.loop-n.invariant.0),
      simp length-set (omega arith),
      simp length-set (omega arith),
      search still_drops,
      search next-written,
    )

pub returns : goal.returns
returns c =
    let all : length c.loop-n.words ≤ c.loop-n.n = omega arith in search full

pub slice_bounds-read_number-end : goal.slice_bounds-read_number-end
slice_bounds-read_number-end c = to-fits c.args.field.now c.loop-n.from c.end_of-to.result 44 c.end_of-to.ensures (c.loop-n.invariant.0)
