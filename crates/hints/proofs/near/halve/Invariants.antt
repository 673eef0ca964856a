-- `halve` meets its contract. The invariant: it stays among the rows, and they become fewer.
use Rattle.std.proofs.Common.{◌-◌, ◌≤◌}
use Rattle.hints.proofs.near.halve.Given as goal

abbrev pub invariant-loop-lo : goal.invariant-loop-lo
invariant-loop-lo l = l.hi ≤ l.to

abbrev pub decreases-loop-lo : goal.decreases-loop-lo
decreases-loop-lo l = l.hi - l.lo
