-- What the walk over the edge counts uses of `edges_from`: one row more. `left` is what is left of `len` after the rows before i; the walk's
-- invariant, `rest`, says that the counts of all rows are those of the rows to come and what has been taken. Assumes nothing.
use Prim.Native.Nat.{ℕ, ◌+◌, ◌-◌, ◌*◌, ◌≤◌, ◌<◌}
use mathlib.Core.Path.{◌≡◌, refl, sym, ap, ◌∙◌}
use mathlib.Core.Bool.{Bool, true, false, not}
use mathlib.Core.List.{List}
use native.Mathlib.Omega.{arith}
use borrow.Author.Tests.{eq-eqb, ne_eqb, eqb-true, eqb-false, ltb-true}
use lib.Dec.{eqb, ltb}
use Rattle.lists.proofs.Cases.{one_left}
use Rattle.rules.specs.Tables.{parents_at, children_at, edges_from}
use Rattle.rules.specs.Shape.{wrong_counts}
use Rattle.shape.proofs.Scan.{none_left}
use Rattle.shape.proofs.Whole.{under}

-- two tests that hold together
eqb_same : (a b c d : ℕ) → (a ≡ b → c ≡ d) → (c ≡ d → a ≡ b) → eqb a b ≡ eqb c d
eqb_same a b c d f g = by (eqb a b) refl
  where
    by : (t : Bool) → eqb a b ≡ t → eqb a b ≡ eqb c d
    by true e = e ∙ sym (eq-eqb c d (f (eqb-true a b e)))
    by false e = e ∙ sym (ne_eqb c d (λ k. eqb-false a b e (g k)))

module _ (width : ℕ) (rows : List ℕ) (n i len left : ℕ) (rest : edges_from width rows n 0 + left ≡ edges_from width rows (n - i) i + len) where
  pub counts_end : n ≤ i → not (eqb left 0) ≡ wrong_counts width rows n len
  unfolding wrong_counts
  counts_end h =
      let r : edges_from width rows n 0 + left ≡ 0 + len = rw (none_left n i h) at rest in
      ap not (eqb_same left 0 (edges_from width rows n 0) len (λ e. omega arith) (λ e. omega arith))

  module _ (below : i < n) where
    counts-open : edges_from width rows n 0 + left ≡ parents_at rows (i * width) + children_at rows (i * width) + edges_from width rows (n - (i + 1)) (i + 1) + len
    counts-open = rw (one_left n i below) at rest

    -- x is what a test said of the row's counts
    module _ (x : Bool) (said : x ≡ ltb left (parents_at rows (i * width) + children_at rows (i * width))) where
      pub counts_over : x ≡ true → true ≡ wrong_counts width rows n len
      unfolding wrong_counts
      counts_over told =
          let h : left < parents_at rows (i * width) + children_at rows (i * width) = ltb-true _ _ (sym said ∙ told) in
          rw (ne_eqb (edges_from width rows n 0) len (λ e. omega (arith, counts-open, e)))

      pub counts_next : x ≡ false → edges_from width rows n 0 + (left - parents_at rows (i * width) - children_at rows (i * width)) ≡ edges_from width rows (n - (i + 1)) (i + 1) + len
      counts_next told = omega (arith, counts-open, under left (parents_at rows (i * width)) (children_at rows (i * width)) x said told)
