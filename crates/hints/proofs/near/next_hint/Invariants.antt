-- `next_hint` meets its contract. The invariant: it goes ahead, and stays in the table. Where it ends is a hint, so nothing else is owed.
use Rattle.std.proofs.Common.{◌-◌, ◌≤◌}
use Rattle.hints.proofs.near.next_hint.Given as goal

abbrev pub invariant-loop-hi : goal.invariant-loop-hi
invariant-loop-hi l = l.at ≤ l.hi

abbrev pub decreases-loop-hi : goal.decreases-loop-hi
decreases-loop-hi l = l.count - l.hi
