-- What rules ask of a list.
-- Assumes nothing.
use Rattle.std.specs.Prelude.{◌≡◌, Bool, true, false, ◌||◌, List, [], ◌∷◌, ◌++◌, ℕ, eqb, length, drop}

infix 4 ◌∈◌ ◌∉◌
-- x stands in the list
abbrev pub has : ℕ → List ℕ → Bool
has x [] = false
has x (y ∷ ys) = eqb y x || has x ys

abbrev pub ◌∈◌ : ℕ → List ℕ → Type 0
x ∈ l = has x l ≡ true

abbrev pub ◌∉◌ : ℕ → List ℕ → Type 0
x ∉ l = has x l ≡ false

abbrev pub none : {A : Type 0} → List A → Bool
none [] = true
none (x ∷ xs) = false

-- 1 for a test that holds, so that tests can be counted
abbrev pub tick : Bool → ℕ
tick true = 1
tick false = 0

-- the area l with xs written at its front: the words past them stay
abbrev pub front : List ℕ → List ℕ → List ℕ
front xs l = xs ++ drop (length xs) l
