-- Pairs of ids as rows of three words (x, y, 0), looked up where the rows are in order.
-- Assumes nothing.
use Rattle.std.specs.Prelude.{ℕ, ◌<◌, Bool, true, false, ◌||◌, ◌&&◌, ◌≡◌, List, [], ◌∷◌, length, eqb, ltb}
use Rattle.lists.specs.Sort.{Row, le3}
use Rattle.sorts.specs.Heap.{at}

-- a row begins with x and y
abbrev pub has_pair : ℕ → ℕ → List Row → Bool
has_pair x y [] = false
has_pair x y (r ∷ l) = (eqb r.0 x && eqb r.1 y) || has_pair x y l

-- the row stands before (x, y)
abbrev pub pair_lt : Row → ℕ → ℕ → Bool
pair_lt r x y = ltb r.0 x || (eqb r.0 x && ltb r.1 y)

-- rows in order
abbrev pub Ordered : List Row → Type 0
Ordered l = (p q : ℕ) → p < q → q < length l → le3 (at l p) (at l q) ≡ true
