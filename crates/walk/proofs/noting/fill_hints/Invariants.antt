-- `fill_hints` meets its contract: places are below g, and no place is written over.
use mathlib.Core.Path.{◌≡◌}
use Prim.Native.Nat.{ℕ, ◌+◌, ◌<◌}
use lib.ListN.{length, get_or}
use Rattle.walk.proofs.noting.fill_hints.Given as goal

abbrev pub invariant-loop-i : goal.invariant-loop-i
invariant-loop-i l = (length l.v ≡ length l.initial.v) × ((j : ℕ) → j < l.g → get_or l.v (l.g + j) 0 < l.g)
