-- Document 01, "Tables": "Refusal 1 is given exactly when an input table's length is no multiple of its row (a held area may have any
-- length), a held count reaches past its area, the edge counts, added as whole numbers, don't make the edge table, a flag is neither 0
-- nor 1, a hash or state word exceeds 4,294,967,295, or held ids don't ascend." A test here is true where the tables are bad.
-- Assumes nothing.
use Rattle.std.specs.Prelude.{ℕ, zero, suc, ◌+◌, ◌*◌, ◌/◌, ◌%◌, Bool, false, not, ◌||◌, List, length, get_or, ltb, eqb}
use Rattle.words.specs.Table.{ids, ascending}
use Rattle.rules.specs.Tables.{row_width, held_width, place_width, head_width, edges_from}

-- a flag is neither 0 nor 1; a hash or state word exceeds 4,294,967,295
abbrev pub bad_flag : ℕ → Bool
bad_flag flag = ltb 1 flag

abbrev pub bad_hash : ℕ → Bool
bad_hash word = ltb 4294967295 word

-- the words that segment rows and held rows share, in the row that begins at word w
unfoldable pub bad_head : List ℕ → ℕ → Bool
bad_head rows w =
    bad_hash (get_or rows (w + 1) 0)
    || (bad_hash (get_or rows (w + 2) 0)
    || (bad_hash (get_or rows (w + 3) 0)
    || (bad_flag (get_or rows (w + 5) 0)
    || bad_flag (get_or rows (w + 7) 0))))

-- the placement row, and the held row, that begins at word w
unfoldable pub bad_place : List ℕ → ℕ → Bool
bad_place places w = bad_flag (get_or places (w + 2) 0)

unfoldable pub bad_held_row : List ℕ → ℕ → Bool
bad_held_row rows w =
    bad_head rows w
    || (bad_flag (get_or rows (w + head_width) 0)
    || bad_flag (get_or rows (w + head_width + 2) 0))

-- one of n rows of that width from row i on is bad
abbrev pub any_bad : (List ℕ → ℕ → Bool) → ℕ → List ℕ → ℕ → ℕ → Bool
any_bad bad width rows zero i = false
any_bad bad width rows (suc n) i = bad rows (i * width) || any_bad bad width rows n (i + 1)

-- the edge counts of n rows don't make an edge table of `len` words
unfoldable pub wrong_counts : ℕ → List ℕ → ℕ → ℕ → Bool
wrong_counts width rows n len = not (eqb (edges_from width rows n 0) len)

-- no whole rows, or a bad row
unfoldable pub bad_table : (List ℕ → ℕ → Bool) → ℕ → List ℕ → Bool
bad_table bad width rows = not (eqb (length rows % width) 0) || any_bad bad width rows (length rows / width) 0

-- ---- what each call judges

-- the layout judge: segment rows, edge table, placement rows
unfoldable pub bad_layout : List ℕ → List ℕ → List ℕ → Bool
bad_layout rows edges places =
    bad_table bad_head row_width rows
    || (wrong_counts row_width rows (length rows / row_width) (length edges)
    || bad_table bad_place place_width places)

-- held rows alone (assignment)
unfoldable pub bad_held_rows : List ℕ → ℕ → Bool
bad_held_rows rows n =
    ltb (length rows) (n * held_width)
    || (any_bad bad_held_row held_width rows n 0
    || not (ascending (ids rows held_width n)))

-- held rows and held edges (update, ordering, parents, children)
unfoldable pub bad_held : List ℕ → List ℕ → ℕ → ℕ → Bool
bad_held rows edges n e =
    bad_held_rows rows n
    || (ltb (length edges) e
    || wrong_counts held_width rows n e)
