-- `reading::items::count_items` meets its contract. The invariant: the items counted, and the list that the rest is, make the whole list.
use borrow.Author.Rules.{rules}
use Rattle.reading.proofs.Parts.{to-fits}
use Rattle.reading.proofs.Listing.{begun, bad-item, last-item, next-item, no_room}
use native.Mathlib.Omega.{arith}
use mathlib.Core.Path.{◌∙◌}
use Rattle.reading.proofs.items.count_items.Goals as goal

pub loop-n-init : goal.loop-n-init
loop-n-init c = (search rules, search begun)

pub returns-in_err-read_number : goal.returns-in_err-read_number
returns-in_err-read_number c =
    c.from_residual.ensures
    ∙ bad-item c.args.field.now _ _ 44 c.loop-n.invariant.0 c.end_of-to.ensures _ c.read_number.ensures _ _ (omega arith) _ c.loop-n.invariant.1 c.in_err-read_number.was

pub returns-then-to-field : goal.returns-then-to-field
returns-then-to-field c =
    last-item c.args.field.now _ _ 44 c.loop-n.invariant.0 c.end_of-to.ensures _ c.read_number.ensures _ _ (omega arith) _ c.loop-n.invariant.1 _ c.in_ok-read_number.was c.if-to-field.true

pub overflow_add-from : goal.overflow_add-from
overflow_add-from c = omega (arith, to-fits c.args.field.now c.loop-n.from c.end_of-to.result 44 c.end_of-to.ensures c.loop-n.invariant.0)

pub loop-n-preserved : goal.loop-n-preserved
loop-n-preserved c = (
  omega (arith, to-fits c.args.field.now c.loop-n.from c.end_of-to.result 44 c.end_of-to.ensures c.loop-n.invariant.0),
  next-item c.args.field.now _ _ 44 c.loop-n.invariant.0 c.end_of-to.ensures _ c.read_number.ensures _ _ (omega arith) _ c.loop-n.invariant.1 _ c.in_ok-read_number.was c.if-to-field.false,
)

pub returns : goal.returns
returns c = search no_room

pub slice_bounds-read_number-end : goal.slice_bounds-read_number-end
slice_bounds-read_number-end c = to-fits c.args.field.now c.loop-n.from c.end_of-to.result 44 c.end_of-to.ensures (c.loop-n.invariant.0)
