-- A table of rows in a list of words: row r is the words r * width up to r * width + width, and its id is the first of them.
use Rattle.std.specs.Prelude.{Option, Some, None, Bool, true, cond, ◌&&◌, List, [], ◌∷◌, ℕ, zero, suc, ◌<◌, length, get_or, drop, eqb, ltb}

-- the ids of the first `count` rows
abbrev pub ids : List ℕ → ℕ → ℕ → List ℕ
ids t width zero = []
ids t width (suc count) = get_or t 0 0 ∷ ids (drop width t) width count

-- each is above those before it
abbrev pub Ascends : List ℕ → Type 0
Ascends l = (p q : ℕ) → p < q → q < length l → get_or l p 0 < get_or l q 0

-- the test of that, neighbour by neighbour
abbrev pub ascending : List ℕ → Bool
ascending [] = true
ascending (x ∷ []) = true
ascending (x ∷ y ∷ l) = ltb x y && ascending (y ∷ l)

-- where a search ended: the row, if there is one
abbrev pub Found : Type 0
Found = Option ℕ

pattern abbrev pub At : ℕ → Found
At row = Some row

pattern abbrev pub Nothing : Found
Nothing = None

-- the place of the first x in l, of which the first element has the place k
abbrev pub where_from : ℕ → List ℕ → ℕ → Found
where_from k [] x = Nothing
where_from k (y ∷ l) x = cond (eqb y x) (At k) (where_from (suc k) l x)

abbrev pub where_is : List ℕ → ℕ → Found
where_is l x = where_from 0 l x
