-- `count_pairs` meets its contract: what is counted and what the rows to come have is all of it.
use Prim.Native.Nat.{◌-◌}
use Rattle.lookups.proofs.Counted.{Counting}
use Rattle.lookups.proofs.links.count_pairs.Given as goal

abbrev pub invariant-loop-i : goal.invariant-loop-i
invariant-loop-i l = Counting l.side l.width l.table l.n l.i l.k
