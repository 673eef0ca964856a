-- The pairs (segment, parent) or (segment, child) of a table: what 25 asks of the other end of an edge. One definition for both sides.
-- Assumes nothing.
use Rattle.std.specs.Prelude.{ℕ, zero, suc, ◌+◌, ◌*◌, List, [], ◌∷◌, ◌++◌, map}
use Rattle.lists.specs.Lists.{◌∉◌}
use Rattle.lists.specs.Sort.{Row, le3, sorted}
use Rattle.types.specs.declared.records.Side.{Side}
use Rattle.types.specs.declared.records.Side.TheVariants.{Parents, Children}
use Rattle.rules.specs.Model.{Segment, id_of, ids_of}
use Rattle.rules.specs.Tables.{parents_at, children_at, segments_from}

-- no id stands twice: what 8 establishes
abbrev pub Distinct : List Segment → Type 0
Distinct [] = Unit {0}
Distinct (s ∷ ss) = (id_of s ∉ ids_of ss) × Distinct ss

abbrev pub pair_of : ℕ → ℕ → Row
pair_of id x = (id, x, 0)

-- each id with each of its list
abbrev pub pairs_of : (Segment → List ℕ) → List Segment → List Row
pairs_of list [] = []
pairs_of list (s ∷ ss) = map (pair_of (id_of s)) (list s) ++ pairs_of list ss

-- the parents, or the children
abbrev pub side_of : Side → Segment → List ℕ
side_of Parents s = s.parents
side_of Children s = s.children

-- the pairs of n rows of that width, sorted
unfoldable pub pair_index : Side → ℕ → List ℕ → List ℕ → ℕ → List Row
pair_index side width table edges n = sorted le3 (pairs_of (side_of side) (segments_from width table edges n 0 0))

-- how many of them the row that begins at word w has; how many n rows from row i on have
abbrev pub side_at : Side → List ℕ → ℕ → ℕ
side_at Parents table w = parents_at table w
side_at Children table w = children_at table w

abbrev pub sides_from : Side → ℕ → List ℕ → ℕ → ℕ → ℕ
sides_from side width table zero i = 0
sides_from side width table (suc n) i = side_at side table (i * width) + sides_from side width table n (i + 1)
