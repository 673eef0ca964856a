-- How an index tells which rows repeat the id of an earlier row. What holds of an index of segments and of one of placements is said of
-- any keys that are `Keyed`.
-- Assumes nothing.
use Rattle.std.specs.Prelude.{ℕ, ◌<◌, cond, ◌≡◌, List, [], ◌∷◌, length, get_or, set, eqb}
use Rattle.lists.specs.Sort.{Row, le3, sorted}
use Rattle.words.specs.Twins.{Twins}
use Rattle.sorts.specs.Heap.{at}

-- K are the keys of a table whose rows have the ids l: an id and a row number each, in input order
pub record Keyed (l : List ℕ) (K : List Row) : Type 0 where
  pub len : length K ≡ length l
  pub id : (k : ℕ) → k < length l → (at K k).0 ≡ get_or l k 0
  pub row : (k : ℕ) → k < length l → (at K k).1 ≡ k

-- ys flags the twins of every table of n rows that has this index
pub record Tells (index : List Row) (n : ℕ) (ys : List ℕ) : Type 0 where
  pub twins : (l : List ℕ) (K : List Row) → Keyed l K → length l ≡ n → index ≡ sorted le3 K → Twins l ys

-- ---- for the private functions: neighbour by neighbour

-- flag k, where x and y are one id
abbrev pub marked : ℕ → ℕ → ℕ → List ℕ → List ℕ
marked x y k ys = cond (eqb x y) (set ys k 1) ys

abbrev pub paired : List Row → List ℕ → List ℕ
paired [] ys = ys
paired (x ∷ []) ys = ys
paired (x ∷ y ∷ r) ys = paired (y ∷ r) (marked x.0 y.0 y.1 ys)
