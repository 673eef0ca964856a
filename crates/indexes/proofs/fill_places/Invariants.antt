-- `fill_places` meets its contract: after i turns the rows of the index are the first i keys and then what was there.
use Prim.Native.Nat.{◌≤◌}
use mathlib.Core.Path.{◌≡◌}
use mathlib.Core.List.{◌++◌}
use lib.ListN.{length, take, drop}
use Rattle.sorts.specs.Rows.{rows}
use Rattle.indexes.specs.Index.{placement_keys}
use Rattle.indexes.proofs.fill_places.Given as goal

abbrev pub invariant-loop-i : goal.invariant-loop-i
invariant-loop-i l =
    (l.i ≤ l.m)
    × (length l.index ≡ length l.initial.index)
    × (rows l.index ≡ take l.i (placement_keys l.table l.m 0) ++ drop l.i (rows l.initial.index))
