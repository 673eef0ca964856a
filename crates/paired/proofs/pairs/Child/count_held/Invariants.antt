-- The invariant: `held` counts those among the first ids that were held.
use Prim.Native.Nat.{◌≤◌}
use mathlib.Core.Path.{◌≡◌}
use lib.ListN.{length, take}
use Rattle.paired.specs.Tables.{known}
use Rattle.paired.specs.Held.{ids_held}
use Rattle.paired.proofs.pairs.Child.count_held.Given as goal

abbrev pub invariant-loop-id : goal.invariant-loop-id
invariant-loop-id l = (l.id-index ≤ length l.list) × (l.held ≤ l.id-index) × (l.held ≡ length (known (take l.id-index l.list) (ids_held l.self.old)))
