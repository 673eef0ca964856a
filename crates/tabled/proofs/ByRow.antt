-- The segments of a table by row number, and by id:
--     segments-length, segments-at     the list of segments has at place i the segment of row i
--     lookup-found     looking an id up in the list of segments is finding its row in the table
--     ids-segments     the ids of the segments are the first words of the rows
-- Assumes nothing.
use Prim.Native.Nat.{ℕ, zero, suc, ◌+◌, ◌*◌, ◌<◌}
use native.Mathlib.Nat.{add-zero, zero-add, le_of_suc-le-suc, not-suc-le-zero, add_comm, suc-mul}
use native.Mathlib.Numerals.{add-one}
use native.Mathlib.Omega.{arith}
use mathlib.Core.Path.{◌≡◌, refl, sym, ap, ◌∙◌}
use mathlib.Core.Bool.{Bool, true, false, cond}
use mathlib.Core.Option.{Option, none, some}
use mathlib.Core.List.{List, [], ◌∷◌}
use lib.ListN.{length, get_or, drop}
use lib.Seq.{get_or-drop, drop-drop}
use lib.Dec.{eqb}
use Rattle.words.specs.Table.{ids, where_from, where_is, Found, At, Nothing}
use Rattle.rules.specs.Model.{Segment, ids_of, lookup}
use Rattle.rules.specs.Tables.{held_width, parents_at, children_at, start_of, segment_at, segments_from, held_segments}
use Rattle.rules.proofs.Places.{start-next}
use Rattle.rules.proofs.TableIds.{ids_next}
use Rattle.tabled.specs.Image.{segment_in, segment_found}

pub segments-length : (rows edges : List ℕ) (n i at : ℕ) → length (segments_from held_width rows edges n i at) ≡ n
segments-length rows edges zero i at = refl
segments-length rows edges (suc n) i at = ap suc (segments-length rows edges n (i + 1) _)

module _ (rows edges : List ℕ) where
  -- n rows from row i on, whose edges begin where they should: place k holds row i + k
  from_at : (d : Segment) (n i k : ℕ) → k < n → get_or (segments_from held_width rows edges n i (start_of held_width rows i)) k d ≡ segment_in rows edges (i + k)
  from_at d zero i k h = absurd (not-suc-le-zero h)
  from_at d (suc n) i zero h = rw add-zero
  from_at d (suc n) i (suc k) h =
      let e : i + 1 + k ≡ i + suc k = omega arith in
      rw (← start-next held_width rows i) (from_at d n (i + 1) k (le_of_suc-le-suc h) ∙ ap (segment_in rows edges) e)

  pub segments-at : (d : Segment) (n k : ℕ) → k < n → get_or (held_segments rows edges n) k d ≡ segment_in rows edges k
  segments-at d n k h = from_at d n 0 k h ∙ ap (segment_in rows edges) (zero-add k)

  found_from : (id n i : ℕ) → lookup id (segments_from held_width rows edges n i (start_of held_width rows i)) ≡ segment_found rows edges (where_from i (ids (drop (i * held_width) rows) held_width n) id)
  found_from id zero i = refl
  found_from id (suc n) i =
      let one : i + 1 ≡ suc i = add-one i in
      let rest : lookup id (segments_from held_width rows edges n (i + 1) (start_of held_width rows (i + 1))) ≡ segment_found rows edges (where_from (i + 1) (ids (drop ((i + 1) * held_width) rows) held_width n) id) = found_from id n (i + 1) in
      let turned : lookup id (segments_from held_width rows edges n (i + 1) (start_of held_width rows i + parents_at rows (i * held_width) + children_at rows (i * held_width))) ≡ segment_found rows edges (where_from (suc i) (ids (drop ((i + 1) * held_width) rows) held_width n) id) =
      ap (λ (a : ℕ). lookup id (segments_from held_width rows edges n (i + 1) a)) (sym (start-next held_width rows i)) ∙ rest ∙ ap (λ (k : ℕ). segment_found rows edges (where_from k (ids (drop ((i + 1) * held_width) rows) held_width n) id)) one in
      by (eqb (get_or rows (i * held_width) 0) id) _ (where_from (suc i) (ids (drop ((i + 1) * held_width) rows) held_width n) id) turned
      ∙ ap (λ (l : List ℕ). segment_found rows edges (where_from i l id)) (ids_next rows held_width n i)
    where
      by : (t : Bool) (a : Option Segment) (f : Found) → a ≡ segment_found rows edges f
          → cond t (some (segment_in rows edges i)) a ≡ segment_found rows edges (cond t (At i) f)
      by true a f e = refl
      by false a f e = e

  pub lookup-found : (id n : ℕ) → lookup id (held_segments rows edges n) ≡ segment_found rows edges (where_is (ids rows held_width n) id)
  lookup-found id n = found_from id n 0

  ids-from : (n i at : ℕ) → ids_of (segments_from held_width rows edges n i at) ≡ ids (drop (i * held_width) rows) held_width n
  ids-from zero i at = refl
  ids-from (suc n) i at =
      ap (λ (l : List ℕ). get_or rows (i * held_width) 0 ∷ l) (ids-from n (i + 1) (at + parents_at rows (i * held_width) + children_at rows (i * held_width)))
      ∙ ids_next rows held_width n i

  pub ids-segments : (n : ℕ) → ids_of (held_segments rows edges n) ≡ ids rows held_width n
  ids-segments n = ids-from n 0 0
