-- `push_pairs` meets its contract: after j turns the pairs of the first j items stand behind row k.
use Prim.Native.Nat.{◌+◌, ◌≤◌, ◌-◌}
use mathlib.Core.Path.{◌≡◌}
use mathlib.Core.List.{◌++◌, map}
use lib.ListN.{length, take}
use Rattle.sorts.specs.Rows.{rows}
use Rattle.lookups.specs.Sides.{pair_of}
use Rattle.lookups.proofs.links.push_pairs.Given as goal

abbrev pub invariant-loop-j : goal.invariant-loop-j
invariant-loop-j l =
    (l.j ≤ length l.list)
    × (length l.pairs ≡ length l.initial.pairs)
    × (take (l.k + l.j) (rows l.pairs) ≡ take l.k (rows l.initial.pairs) ++ map (pair_of l.id) (take l.j l.list))
