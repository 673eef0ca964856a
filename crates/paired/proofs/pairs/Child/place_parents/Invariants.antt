-- The invariant: the pairs with the first parents are placed.
use Prim.Native.Nat.{◌≤◌}
use mathlib.Core.List.{map}
use lib.ListN.{length, take}
use Rattle.paired.specs.Tables.{known}
use Rattle.paired.specs.Held.{ids_held}
use Rattle.paired.specs.Pairs.{pair_of, Placed}
use Rattle.paired.proofs.pairs.Child.place_parents.Given as goal

abbrev pub invariant-loop-parent : goal.invariant-loop-parent
invariant-loop-parent l =
    (l.parent-index ≤ length l.parents)
    × Placed l.initial.scratch l.scratch l.k l.r
    (map (pair_of l.self.kind l.self.id) (known (take l.parent-index l.parents) (ids_held l.self.old)))
