-- The definitions run: two segment rows in descending order, and three placements of which the last repeats the id of the first.
-- Each is one computation. Assumes nothing.
use Prim.Native.Nat.{ℕ}
use mathlib.Core.Path.{◌≡◌, refl}
use mathlib.Core.List.{List, [], ◌∷◌}
use Rattle.lists.specs.Sort.{le3}
use Rattle.indexes.specs.Index.{segment_index, placement_index}
use Rattle.indexes.specs.Marks.{paired}

-- id 9 with parent 2, and id 2 with child 9
table : List ℕ
table = 9 ∷ 0 ∷ 65535 ∷ 1 ∷ 5 ∷ 0 ∷ 77 ∷ 1 ∷ 3 ∷ 1 ∷ 0 ∷ 2 ∷ 0 ∷ 65535 ∷ 2 ∷ 0 ∷ 1 ∷ 5 ∷ 0 ∷ 88 ∷ 0 ∷ 1 ∷ []

places : List ℕ
places = 9 ∷ 40 ∷ 0 ∷ 0 ∷ 2 ∷ 41 ∷ 0 ∷ 0 ∷ 9 ∷ 42 ∷ 0 ∷ 0 ∷ []

rows-case : segment_index table 2 ≡ (2, 1, 1) ∷ (9, 0, 0) ∷ []
unfolding segment_index table le3
rows-case = refl

places-case : placement_index places 3 ≡ (2, 1, 0) ∷ (9, 0, 0) ∷ (9, 2, 0) ∷ []
unfolding placement_index places le3
places-case = refl

flags-case : paired (placement_index places 3) (0 ∷ 0 ∷ 0 ∷ []) ≡ 0 ∷ 0 ∷ 1 ∷ []
unfolding placement_index places le3
flags-case = refl
