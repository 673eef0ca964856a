-- `paired::pairs::copy_pairs` meets its contract: after i turns two words of each of the first i rows stand at the front of out (`Copied`).
use Prim.Native.Nat.{◌≤◌}
use Rattle.paired.proofs.Sorting.{Copied}
use Rattle.paired.proofs.pairs.copy_pairs.Given as goal

abbrev pub invariant-loop-i : goal.invariant-loop-i
invariant-loop-i l = (l.i ≤ l.k) × Copied l.initial.out l.out l.pairs l.i
