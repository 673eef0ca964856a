-- The head of the segment with an id is read in the row that a search finds: a head is what the segment of its row says of itself, and
-- the segment is found by its row. Assumes nothing.
use Prim.Native.Nat.{ℕ, zero, suc, ◌+◌, ◌*◌}
use mathlib.Core.Path.{◌≡◌, refl, ap, ◌∙◌}
use mathlib.Core.Bool.{Bool, true, false, cond}
use mathlib.Core.Option.{Option, none, some}
use mathlib.Core.List.{List, []}
use lib.ListN.{get_or}
use lib.Dec.{eqb}
use Rattle.words.specs.Table.{ids, where_is, Found, At, Nothing}
use Rattle.rules.specs.Model.{Head, Segment, head_of, lookup}
use Rattle.rules.specs.Tables.{held_width, head_at, heads, parents_at, children_at, segment_at, segments_from}
use Rattle.tabled.specs.Image.{segment_found}
use Rattle.tabled.proofs.ByRow.{lookup-found}

abbrev head_in : Option Segment → Option Head
head_in none = none
head_in (some s) = some s.head

-- the head of a row that was found
abbrev pub head_found : List ℕ → Found → Option Head
head_found rows (At row) = some (head_at rows (row * held_width))
head_found rows Nothing = none

module _ (rows : List ℕ) (id : ℕ) where
  head-from : (n i place : ℕ) → head_of id (heads held_width rows n i) ≡ head_in (lookup id (segments_from held_width rows [] n i place))
  head-from zero i place = refl
  head-from (suc n) i place =
      by (eqb (get_or rows (i * held_width) 0) id) _ _ (head-from n (i + 1) (place + parents_at rows (i * held_width) + children_at rows (i * held_width)))
    where
      by : (t : Bool) (h : Option Head) (s : Option Segment) → h ≡ head_in s
          → cond t (some (head_at rows (i * held_width))) h ≡ head_in (cond t (some (segment_at rows [] (i * held_width) place)) s)
      by true h s e = refl
      by false h s e = e

  in_row : (f : Found) → head_in (segment_found rows [] f) ≡ head_found rows f
  in_row (At row) = refl
  in_row Nothing = refl

  pub head-found : (n : ℕ) → head_of id (heads held_width rows n 0) ≡ head_found rows (where_is (ids rows held_width n) id)
  head-found n = head-from n 0 0 ∙ ap head_in (lookup-found rows [] id n) ∙ in_row (where_is (ids rows held_width n) id)
