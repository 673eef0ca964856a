-- Each id of a list once, ascending.
-- Assumes nothing.
use Rattle.std.specs.Prelude.{ℕ, ◌+◌, ◌-◌, ◌*◌, ◌<◌, ◌≤◌, ◌≡◌, Bool, true, false, cond, not, List, eqb, ltb, length, get_or}
use Rattle.lists.specs.Lists.{has, ◌∈◌, ◌∉◌}
use Rattle.lists.specs.Sets.{Ascending}
use Rattle.words.specs.Part.{part}
use Rattle.rules.specs.Tables.{held_width, held_segments}
use Rattle.rules.specs.Ancestors.{ancestors, references_read}
use Rattle.walk.specs.declared.Ancestry.{Ancestry}

-- a has the ids of l, each once, ascending
pub record Kept (a l : List ℕ) : Type 0 where
  pub up : Ascending a
  pub same : (z : ℕ) → has z a ≡ has z l

-- of m rows of three words from word a on, no row has a smaller id than one before it
abbrev pub Rises : List ℕ → ℕ → ℕ → Type 0
Rises w a m = (i j : ℕ) → i < j → j < m → get_or w (a + 3 * i) 0 ≤ get_or w (a + 3 * j) 0

-- row i has another id than the row before it
abbrev pub is_new : List ℕ → ℕ → ℕ → Bool
is_new w a i = cond (eqb i 0) true (not (eqb (get_or w (a + 3 * i) 0) (get_or w (a + 3 * (i - 1)) 0)))

-- no id stands in both
abbrev pub Apart : List ℕ → List ℕ → Type 0
Apart l k = (z : ℕ) → z ∈ l → z ∉ k

-- of m ids from word a on i were taken, and j of k ids from word b on: the next is the first list's
abbrev pub first_is_next : List ℕ → ℕ → ℕ → ℕ → ℕ → ℕ → ℕ → Bool
first_is_next w a m i b k j = cond (eqb i m) false (cond (eqb j k) true (ltb (get_or w (a + i) 0) (get_or w (b + j) 0)))

-- the ancestors of the segment of row a stand from word b on, and its references were counted
pub record Listed (rows edges : List ℕ) (n a b : ℕ) (w : List ℕ) (r : Ancestry) : Type 0 where
  pub are : part w b r.count ≡ ancestors (held_segments rows edges n) (get_or rows (a * held_width) 0)
  pub read : r.read ≡ references_read (held_segments rows edges n) (get_or rows (a * held_width) 0)
  pub fits : r.count ≤ length edges
