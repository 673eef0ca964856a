-- The walk over the ancestors of a row of held tables, and its words in the work area. Of n rows, the words 0 to n say where the edges of
-- each row begin, n to 2 n are marks, 2 n to 3 n the row numbers met, in the order of their meeting; from 3 n on there are three words for
-- each id without a row that was read, of which the first is the id. A mark is 0 for a row that was not met, 1 for one that a parent
-- reference reached; the row at which the walk starts has 2 until then, since it is met without being reached.
-- Assumes nothing.
use Rattle.std.specs.Prelude.{ℕ, zero, suc, ◌*◌, ◌<◌, ◌≤◌, ◌≡◌, cond, ◌↔◌, ◌⊎◌, List, [], ◌∷◌, ◌++◌, eqb, length, get_or, set, drop}
use Rattle.lists.specs.Lists.{◌∈◌, ◌∉◌}
use Rattle.words.specs.Part.{part}
use Rattle.words.specs.Table.{ids, where_is, Found, At, Nothing}
use Rattle.rules.specs.Tables.{held_width, start_of, held_segments}
use Rattle.rules.specs.Ancestors.{Ancestor, references_read}
use Rattle.tabled.specs.Image.{segment_in}
use Rattle.held.specs.declared.Held.{Held}
use Rattle.walk.specs.declared.climb.Tally.{Tally}
use Rattle.walk.specs.declared.climb.Walked.{Walked}

-- a mark for each row, the rows met, and the ids read that have no row
pub record Met : Type 0 where
  pub mark : List ℕ
  pub list : List ℕ
  pub bare : List ℕ

abbrev pub met : List ℕ → List ℕ → List ℕ → Met
met m l b = record { mark = m; list = l; bare = b }

-- p is read: its row was reached, and joins the rows met unless it was met before; or it has no row
abbrev pub meet_row : Found → ℕ → Met → Met
meet_row Nothing p s = met s.mark s.list (s.bare ++ (p ∷ []))
meet_row (At r) p s = met (set s.mark r 1) (cond (eqb (get_or s.mark r 0) 0) (s.list ++ (r ∷ [])) s.list) s.bare

-- the same in a table with these ids
abbrev pub meet : List ℕ → ℕ → Met → Met
meet table p s = meet_row (where_is table p) p s

unfoldable pub meet_all : List ℕ → List ℕ → Met → Met
meet_all table [] s = s
meet_all table (p ∷ ps) s = meet_all table ps (meet table p s)

-- no number stands twice
abbrev pub Single : List ℕ → Type 0
Single [] = Unit {0}
Single (x ∷ l) = (x ∉ l) × Single l

-- the rows met are among the n rows, each once, and they are those whose mark is not 0
pub record MetOnce (n : ℕ) (s : Met) : Type 0 where
  pub size : length s.mark ≡ n
  pub single : Single s.list
  pub below : (x : ℕ) → x ∈ s.list → x < n
  pub marked : (x : ℕ) → x ∈ s.list → 0 < get_or s.mark x 0
  pub unmarked : (x : ℕ) → x ∉ s.list → get_or s.mark x 0 ≡ 0

-- ---- in the work area w, with `len` rows met and k ids without a row read

abbrev pub marks_in : ℕ → List ℕ → List ℕ
marks_in n w = part w n n

abbrev pub list_in : ℕ → ℕ → List ℕ → List ℕ
list_in n len w = part w (2 * n) len

abbrev pub bare_in : ℕ → ℕ → List ℕ → List ℕ
bare_in n k w = ids (drop (3 * n) w) 3 k

abbrev pub met_in : ℕ → ℕ → ℕ → List ℕ → Met
met_in n len k w = met (marks_in n w) (list_in n len w) (bare_in n k w)

-- the same of held tables and what was counted
abbrev pub met_of : Held → Tally → List ℕ → Met
met_of held t w = met_in held.count t.met t.bare w

-- the ids of the rows, and the parents of row r
abbrev pub table_of : Held → List ℕ
table_of held = ids held.rows.now held_width held.count

abbrev pub parents_of : Held → ℕ → List ℕ
parents_of held r = (segment_in held.rows.now held.edges.now r).parents

-- the words at the front say where the edges of each of the n rows begin
abbrev pub StartsIn : List ℕ → ℕ → List ℕ → Type 0
StartsIn rows n w = (i : ℕ) → i < n → get_or w i 0 ≡ start_of held_width rows i

-- of the first i rows with these ids and marks, the ids of those that were reached
unfoldable pub reached : List ℕ → List ℕ → ℕ → List ℕ
reached table marks zero = []
reached table marks (suc i) = cond (eqb (get_or marks i 0) 1) (reached table marks i ++ (get_or table i 0 ∷ [])) (reached table marks i)

abbrev pub reached_in : List ℕ → ℕ → List ℕ → List ℕ
reached_in rows n w = reached (ids rows held_width n) (marks_in n w) n

-- the ids without a row are no row's, and there are no more of them than edge words
pub record Climbed (rows edges : List ℕ) (n a : ℕ) (w : List ℕ) (r : Walked) : Type 0 where
  pub are : (x : ℕ) → (x ∈ reached_in rows n w) ⊎ (x ∈ bare_in n r.bare w) ↔ Ancestor (held_segments rows edges n) x (get_or rows (a * held_width) 0)
  pub apart : (x : ℕ) → x ∈ bare_in n r.bare w → x ∉ ids rows held_width n
  pub count : r.read ≡ references_read (held_segments rows edges n) (get_or rows (a * held_width) 0)
  pub fits : r.bare ≤ length edges
