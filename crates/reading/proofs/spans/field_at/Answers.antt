-- `reading::spans::field_at` meets its contract. The invariant: the field that is looked for is the one of that number from here on.
use Rattle.std.proofs.Common.{rules, arith, refl, ◌≡◌, ◌+◌, ◌-◌}
use Rattle.reading.proofs.Parts.{to-fits}
use Rattle.reading.proofs.Found.{next_field, no_field, this-field}
use Rattle.reading.proofs.spans.field_at.Goals as goal

pub loop-init : goal.loop-init
loop-init c = (search rules, (let z : c.args.number - 0 ≡ c.args.number = omega arith in rw z refl))

pub returns-then-to-line : goal.returns-then-to-line
returns-then-to-line c =
    no_field _ _ _ _ c.loop.invariant.0 c.end_of-to.ensures _ (c.args.number - (c.loop.counter + 1)) _ (omega arith) c.if-to-line.true c.loop.invariant.1

pub overflow_add-from : goal.overflow_add-from
overflow_add-from c = omega (arith, to-fits c.args.line.now c.loop.from c.end_of-to.result 32 c.end_of-to.ensures c.loop.invariant.0)

pub loop-preserved : goal.loop-preserved
loop-preserved c = (
  omega (arith, to-fits c.args.line.now c.loop.from c.end_of-to.result 32 c.end_of-to.ensures c.loop.invariant.0),
  next_field _ _ _ _ c.loop.invariant.0 c.end_of-to.ensures _ _ _ (omega arith) c.if-to-line.false c.loop.invariant.1,
)

pub slice_bounds-result-end-2 : goal.slice_bounds-result-end-2
slice_bounds-result-end-2 c = to-fits c.args.line.now c.loop.from c.end_of-to-2.result 32 c.end_of-to-2.ensures c.loop.invariant.0

pub returns : goal.returns
returns c =
    this-field c.args.line.now _ _ 32 c.loop.invariant.0 c.end_of-to-2.ensures (c.args.number - c.loop.counter) _ (omega arith) c.loop.invariant.1
