-- What the walk over the segment rows uses of the model and of its rule: one row more. n is the number of rows, i the row that is next, `place`
-- where its edges begin. Assumes nothing.
use Prim.Native.Nat.{ℕ, suc, ◌+◌, ◌-◌, ◌*◌, ◌^◌, ◌≤◌, ◌<◌, max}
use native.Mathlib.Nat.{zero-add, sub-zero}
use native.Mathlib.Omega.{arith}
use mir.Val.{Fits}
use mir.Syntax.{w64}
use mathlib.Core.Path.{◌≡◌}
use mathlib.Core.List.{List, []}
use lib.ListN.{length, get_or, take}
use Rattle.answers.specs.declared.Refusal.{Refusal}
use Rattle.answers.specs.Answer.{when, ◌then◌, Judged, Accepted, Refused}
use Rattle.lists.specs.Lists.{has}
use Rattle.words.specs.Table.{ids}
use Rattle.words.specs.Twins.{Twins}
use Rattle.rules.specs.Tables.{row_width, parents_at, children_at, segment_at, segments_from, segments, edges_from}
use Rattle.rules.specs.Rows.{row_rule, edge_count_rule, counted_rule, rows_from, rows_rule}
use Rattle.rules.proofs.Places.{length-stretch}
use Rattle.judging.proofs.Before.{ids_more, flag-in, flag-hit, flag-miss}
use Rattle.answers.specs.declared.Refusal.TheVariants.{DuplicateSegment}

-- ---- the edges: those of the rows to come end where the table does

pub room-start : (rows : List ℕ) (n total : ℕ) → edges_from row_width rows n 0 ≡ total → 0 + edges_from row_width rows (n - 0) 0 ≡ total
room-start rows n total e = simp (zero-add, sub-zero) e

module _ (rows : List ℕ) (n i place total : ℕ) (rest : place + edges_from row_width rows (n - i) i ≡ total) (below : i < n) where
  pub room_next : place + parents_at rows (i * row_width) + children_at rows (i * row_width) + edges_from row_width rows (n - (i + 1)) (i + 1) ≡ total
  room_next =
      let one : n - i ≡ suc (n - (i + 1)) = omega arith in
      let e : place + edges_from row_width rows (suc (n - (i + 1))) i ≡ total = rw one at rest in
      omega (arith, e)

  pub room : place + parents_at rows (i * row_width) + children_at rows (i * row_width) ≤ total
  room = omega (arith, room_next)

  -- so the next place fits a word, the table's length being one
  pub room_fits : total < 2 ^ 64 → Fits w64 (place + parents_at rows (i * row_width))
  room_fits h = record { fits = omega (arith, room) }

  pub room-fits-2 : total < 2 ^ 64 → Fits w64 (place + parents_at rows (i * row_width) + children_at rows (i * row_width))
  room-fits-2 h = record { fits = omega (arith, room) }

  pub parents-fit : (parents children : ℕ) → parents + children ≡ place → total < 2 ^ 64 → Fits w64 (parents + parents_at rows (i * row_width))
  parents-fit parents children e h = record { fits = omega (arith, room) }

  pub children-fit : (parents children : ℕ) → parents + children ≡ place → total < 2 ^ 64 → Fits w64 (children + children_at rows (i * row_width))
  children-fit parents children e h = record { fits = omega (arith, room) }

-- ---- the rule: what it says of all rows is what it says of those to come, after the ids and the totals of those before

pub rows_start : (layout limit : ℕ) (rows edges : List ℕ) (n : ℕ)
    → rows_rule layout limit (segments rows edges n) ≡ rows_from layout limit [] 0 0 (segments_from row_width rows edges (n - 0) 0 0)
unfolding rows_rule
rows_start layout limit rows edges n = simp sub-zero

module _
    (layout limit : ℕ) (rows edges : List ℕ) (n i place parents children : ℕ) (v : Judged)
    (rest : v ≡ rows_from layout limit (take i (ids rows row_width n)) parents children (segments_from row_width rows edges (n - i) i place)) where
  pub rows_end : n ≤ i → Accepted ≡ v
  unfolding rows_from
  rows_end h = let e : n - i ≡ 0 = omega arith in rw (rest, e)

  module _
      (below : i < n)
      (within : place + parents_at rows (i * row_width) + children_at rows (i * row_width) ≤ length edges)
      (flags : List ℕ)
      (twins : Twins (ids rows row_width n) flags) where
    rows-open : v ≡
        (when (has (get_or rows (i * row_width) 0) (take i (ids rows row_width n))) (Refused (DuplicateSegment (get_or rows (i * row_width) 0))) then
        row_rule layout (segment_at rows edges (i * row_width) place) then
        edge_count_rule limit (max (parents + parents_at rows (i * row_width)) (children + children_at rows (i * row_width)))) then
        rows_from layout limit (take (i + 1) (ids rows row_width n)) (parents + parents_at rows (i * row_width)) (children + children_at rows (i * row_width))
        (segments_from row_width rows edges (n - (i + 1)) (i + 1) (place + parents_at rows (i * row_width) + children_at rows (i * row_width)))
    unfolding rows_from counted_rule
    rows-open =
        let one : n - i ≡ suc (n - (i + 1)) = omega arith in
        rw (
          rest,
          one,
          length-stretch edges place (parents_at rows (i * row_width)) (omega arith),
          length-stretch edges (place + parents_at rows (i * row_width)) (children_at rows (i * row_width)) within,
          ids_more rows row_width n i below,
        )

    pub rows-twin : (r : Judged) → (get_or flags i 0 ≡ 0 → ⊥) → r ≡ Refused (DuplicateSegment (get_or rows (i * row_width) 0)) → r ≡ v
    rows-twin r h e = rw (e, rows-open, flag-hit rows row_width n i below flags twins h)

    module _
        (new : get_or flags i 0 ≡ 0)
        (x : Judged)
        (said : x ≡
        row_rule layout (segment_at rows edges (i * row_width) place) then
        edge_count_rule limit (max (parents + parents_at rows (i * row_width)) (children + children_at rows (i * row_width)))) where
      pub rows-refused : (r : Refusal) → x ≡ Refused r → x ≡ v
      rows-refused r told = rw (rows-open, flag-miss rows row_width n i below flags twins new, ← said, told)

      pub rows_next : x ≡ Accepted → v ≡
          rows_from layout limit (take (i + 1) (ids rows row_width n)) (parents + parents_at rows (i * row_width)) (children + children_at rows (i * row_width))
          (segments_from row_width rows edges (n - (i + 1)) (i + 1) (place + parents_at rows (i * row_width) + children_at rows (i * row_width)))
      rows_next told = rw (rows-open, flag-miss rows row_width n i below flags twins new, ← said, told)

-- what `judge_rows` rests on
pub ruleset rows_judged = (flag-in, room-start, room_fits, room-fits-2, parents-fit, children-fit, rows_start, rows_end)
