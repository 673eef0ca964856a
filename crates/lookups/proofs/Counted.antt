-- The pairs counted: what stands counted and what the rows to come have are all of them (`Counting`).
--     sides-both     parents and children are all edges
-- By the rest of the table, one row less each turn. Assumes nothing.
use Prim.Native.Nat.{ℕ, zero, suc, ◌+◌, ◌-◌, ◌*◌, ◌≤◌, ◌<◌}
use native.Mathlib.Nat.{sub-zero, zero-add}
use native.Mathlib.Omega.{arith}
use mathlib.Core.Path.{◌≡◌, refl, ◌∙◌}
use mathlib.Core.List.{List}
use mir.Val.{Fits}
use mir.Syntax.{w64}
use Rattle.types.specs.declared.records.Side.{Side}
use Rattle.types.specs.declared.records.Side.TheVariants.{Parents, Children}
use Rattle.rules.specs.Tables.{edges_from}
use Rattle.lookups.specs.Sides.{side_at, sides_from}

pub sides-both : (width : ℕ) (table : List ℕ) (n i : ℕ) → sides_from Parents width table n i + sides_from Children width table n i ≡ edges_from width table n i
sides-both width table zero i = refl
sides-both width table (suc n) i = omega (arith, sides-both width table n (i + 1))

sides-le : (b : Side) (width : ℕ) (table : List ℕ) (n : ℕ) → sides_from b width table n 0 ≤ edges_from width table n 0
sides-le Parents width table n = omega (arith, sides-both width table n 0)
sides-le Children width table n = omega (arith, sides-both width table n 0)

module _ (b : Side) (width : ℕ) (table : List ℕ) where
  -- k are counted, of the rows before row i
  pub record Counting (n i k : ℕ) : Type 0 where
    pub below : i ≤ n
    pub rest : sides_from b width table n 0 ≡ k + sides_from b width table (n - i) i

  pub count_start : (n : ℕ) → Counting n 0 0
  count_start n = record { below = omega arith; rest = simp (zero-add, sub-zero) }

  module _ (n i k : ℕ) (f : Counting n i k) where
    pub count_end : n ≤ i → k ≡ sides_from b width table n 0
    count_end h = let z : n - i ≡ 0 = omega arith in let e : sides_from b width table n 0 ≡ k + 0 = f.rest ∙ rw z refl in omega arith

    module _ (less : i < n) where
      open_up : sides_from b width table n 0 ≡ k + (side_at b table (i * width) + sides_from b width table (n - (i + 1)) (i + 1))
      open_up = let e : n - i ≡ suc (n - (i + 1)) = omega arith in f.rest ∙ rw e refl

      pub count_next : Counting n (i + 1) (k + side_at b table (i * width))
      count_next = record { below = omega arith; rest = omega (arith, open_up) }

      pub count_fits : (total : ℕ) → edges_from width table n 0 ≡ total → Fits w64 total → Fits w64 (k + side_at b table (i * width))
      count_fits total all h = record { fits = omega (arith, open_up, sides-le b width table n, h.fits) }
