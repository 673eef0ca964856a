-- Ascending lists of ids, read as sets.
-- Assumes nothing.
use Rattle.std.specs.Prelude.{Bool, cond, List, [], ◌∷◌, ℕ, ◌+◌, ◌<◌, ltb, eqb}
use Rattle.lists.specs.Lists.{◌∈◌}

-- each id is above those before it: no id stands twice
abbrev pub Ascending : List ℕ → Type 0
Ascending [] = Unit {0}
Ascending (x ∷ l) = ((y : ℕ) → y ∈ l → x < y) × Ascending l

-- an ascending list with x, too
unfoldable pub add : ℕ → List ℕ → List ℕ
add x [] = x ∷ []
add x (y ∷ ys) = cond (ltb x y) (x ∷ y ∷ ys) (cond (eqb y x) (y ∷ ys) (y ∷ add x ys))

unfoldable pub add_all : List ℕ → List ℕ → List ℕ
add_all [] l = l
add_all (x ∷ xs) l = add x (add_all xs l)

-- those at which the test holds
unfoldable pub keep : (ℕ → Bool) → List ℕ → List ℕ
keep t [] = []
keep t (x ∷ xs) = cond (t x) (x ∷ keep t xs) (keep t xs)

-- the sum of w over the list
unfoldable pub total : (ℕ → ℕ) → List ℕ → ℕ
total w [] = 0
total w (x ∷ l) = w x + total w l
