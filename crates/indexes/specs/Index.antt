-- Indexes: rows of three words (id, row number, where its edges begin), ascending. Made of the input tables, in a part of the work area.
-- Assumes nothing.
use Rattle.std.specs.Prelude.{ℕ, zero, suc, ◌+◌, ◌*◌, List, [], ◌∷◌, get_or}
use Rattle.lists.specs.Sort.{Row, le3, sorted}
use Rattle.rules.specs.Tables.{row_width, place_width, parents_at, children_at}

-- n segment rows from row i on, whose edges begin at `at`
abbrev pub segment_keys : List ℕ → ℕ → ℕ → ℕ → List Row
segment_keys rows zero i at = []
segment_keys rows (suc n) i at =
    (get_or rows (i * row_width) 0, i, at) ∷ segment_keys rows n (i + 1) (at + parents_at rows (i * row_width) + children_at rows (i * row_width))

-- m placement rows from row i on
abbrev pub placement_keys : List ℕ → ℕ → ℕ → List Row
placement_keys places zero i = []
placement_keys places (suc m) i = (get_or places (i * place_width) 0, i, 0) ∷ placement_keys places m (i + 1)

unfoldable pub segment_index : List ℕ → ℕ → List Row
segment_index rows n = sorted le3 (segment_keys rows n 0 0)

unfoldable pub placement_index : List ℕ → ℕ → List Row
placement_index places m = sorted le3 (placement_keys places m 0)
