-- Whether a list has x, by the places of the list.
-- By induction on the list. Assumes nothing.
use Prim.Native.Nat.{ℕ, zero, suc, ◌<◌, zero-le, suc-le-suc}
use native.Mathlib.Nat.{le_of_suc-le-suc, not-suc-le-zero}
use mathlib.Core.Bool.{Bool, true, false, ◌||◌}
use mathlib.Core.Path.{◌≡◌, refl}
use mathlib.Core.List.{List, [], ◌∷◌}
use lib.ListN.{length, get_or}
use lib.Dec.{eqb}
use borrow.Author.Tests.{eq-eqb, ne_eqb}
use Rattle.lists.specs.Lists.{has, ◌∈◌, ◌∉◌}

or-true : (a b : Bool) → b ≡ true → a || b ≡ true
or-true true b e = refl
or-true false b e = e

pub has-at : (x : ℕ) (l : List ℕ) (j : ℕ) → j < length l → get_or l j 0 ≡ x → x ∈ l
has-at x [] j h e = absurd (not-suc-le-zero h)
has-at x (y ∷ l) zero h e = rw (eq-eqb y x e) refl
has-at x (y ∷ l) (suc j) h e = or-true (eqb y x) (has x l) (has-at x l j (le_of_suc-le-suc h) e)

pub has-none : (x : ℕ) (l : List ℕ) → ((j : ℕ) → j < length l → get_or l j 0 ≡ x → ⊥) → x ∉ l
has-none x [] h = refl
has-none x (y ∷ l) h = rw (ne_eqb y x (h 0 (suc-le-suc zero-le))) (has-none x l (λ j q. h (suc j) (suc-le-suc q)))
