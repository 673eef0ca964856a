-- What a scan for a bad row uses of `any_bad`, whatever makes a row bad and however wide it is: one row more. n is the number of rows, i the
-- row that is next, and the scan's invariant, `rest`, says that a row is bad if one of those to come is. Assumes nothing.
use Prim.Native.Nat.{ℕ, ◌+◌, ◌-◌, ◌*◌, ◌≤◌, ◌<◌}
use mathlib.Core.Path.{◌≡◌}
use mathlib.Core.Bool.{Bool, false}
use mathlib.Core.List.{List}
use native.Mathlib.Omega.{arith}
use Rattle.lists.proofs.Cases.{one_left}
use Rattle.rules.specs.Shape.{any_bad}

pub none_left : (n i : ℕ) → n ≤ i → n - i ≡ 0
none_left n i h = omega arith

module _ (bad : List ℕ → ℕ → Bool) (width : ℕ) (rows : List ℕ) (n i : ℕ) (v : Bool) (rest : v ≡ any_bad bad width rows (n - i) i) where
  module _ (below : i < n) (x : Bool) (said : x ≡ bad rows (i * width)) where
    pub any_next : x ≡ false → v ≡ any_bad bad width rows (n - (i + 1)) (i + 1)
    any_next told = rw (rest, one_left n i below, ← said, told)
