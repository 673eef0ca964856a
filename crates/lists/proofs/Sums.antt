-- A sum over a list does not change when the list is sorted: one law for every sum, given by its step.
-- Assumes nothing.
use Prim.Native.Nat.{ℕ, ◌+◌}
use native.Mathlib.Omega.{arith}
use mathlib.Core.Path.{◌≡◌, refl}
use mathlib.Core.Bool.{Bool, true, false}
use mathlib.Core.List.{List, [], ◌∷◌}
use mathlib.Core.Logic.{⊎_elim}
use Rattle.lists.specs.Sort.{insert, sorted}
use Rattle.lists.proofs.SortLaws.{true-or-false}

module _ {A : Type 0} (le : A → A → Bool) (sum : List A → ℕ) (f : A → ℕ) (step : (x : A) (l : List A) → sum (x ∷ l) ≡ f x + sum l) where
  sum-insert : (x : A) (l : List A) → sum (insert le x l) ≡ f x + sum l
  sum-insert x [] = step x []
  sum-insert x (y ∷ l) =
      ⊎_elim (λ (p : le x y ≡ true). rw p (step x (y ∷ l)))
      (λ (p : le x y ≡ false). rw p (omega (arith, step y (insert le x l), sum-insert x l, step y l)))
      (true-or-false (le x y))

  pub sum-sorted : (l : List A) → sum (sorted le l) ≡ sum l
  sum-sorted [] = refl
  sum-sorted (x ∷ l) = omega (arith, sum-insert x (sorted le l), sum-sorted l, step x l)
