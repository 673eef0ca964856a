-- `find_fault` meets its contract: the ways out of the two loops are those of the walk over the items.
use borrow.Author.Rules.{rules}
use mathlib.Core.Path.{◌∙◌, sym}
use native.Mathlib.Omega.{arith}
use Rattle.segment.specs.Faults.{fault_of}
use Rattle.segment.proofs.Items.{begin_past, begin_first, under_more, scan_miss, scan_hit, scan_none, fault_end, fault_self, fault_double, fault_more}
use Rattle.segment.proofs.list.find_fault.Goals as goal
use Rattle.segment.proofs.list.find_fault.Goals.{then-item-top, else-item-top}

pub items-init : goal.items-init
unfolding fault_of
items-init c = search rules

pub loop-earlier-init : goal.loop-earlier-init
loop-earlier-init c = (
  c.items.invariant.0,
  elim c.if-item-top.branch [
    | then-item-top w ↦ begin_past _ _ _ _ _ c.items.invariant.2 (omega arith) w.if-item-top.true w.first-is
    | else-item-top w ↦ begin_first _ _ _ _ w.first-is
  ],
)

pub loop-earlier-preserved : goal.loop-earlier-preserved
loop-earlier-preserved c = (c.loop-earlier.invariant.0, c.loop-earlier.invariant.1 ∙ scan_miss _ _ _ c.loop-earlier-test.true c.if-earlier-item.false)

pub items-preserved : goal.items-preserved
items-preserved c = (
  c.loop-earlier.invariant.0,
  fault_more _ _ _ c.items.invariant.1 c.items-test.true c.if-item-id.false (c.loop-earlier.invariant.1 ∙ scan_none _ _ _ c.loop-earlier-test.false),
  rw c.max-top.ensures (under_more _ _ _ c.items.invariant.2),
)

pub returns-after-items : goal.returns-after-items
returns-after-items c = c.items.invariant.0 ∙ sym (fault_end _ _ _ c.items.invariant.1 c.items-test.false)

pub returns-then-item-id : goal.returns-then-item-id
returns-then-item-id c = sym (fault_self _ _ _ c.items.invariant.1 c.items-test.true c.if-item-id.true)

pub returns-then-earlier-item : goal.returns-then-earlier-item
returns-then-earlier-item c =
    let seen = c.loop-earlier.invariant.1 ∙ scan_hit _ _ _ c.loop-earlier-test.true c.if-earlier-item.true in
    sym (fault_double _ _ _ c.items.invariant.1 c.items-test.true c.if-item-id.false seen)
