-- `fill_pairs` meets its contract: the pairs that stand there and those of the rows to come are all of them.
use Prim.Native.Nat.{◌-◌}
use mathlib.Core.Path.{◌≡◌}
use lib.ListN.{length}
use Rattle.lookups.proofs.Filled.{Filling}
use Rattle.lookups.proofs.links.fill_pairs.Given as goal

abbrev pub invariant-loop-i : goal.invariant-loop-i
invariant-loop-i l = (length l.pairs ≡ length l.initial.pairs) × Filling l.side l.width l.table l.edges l.n l.pairs l.i l.at l.k
