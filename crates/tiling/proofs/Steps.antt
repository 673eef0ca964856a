-- What the functions' proofs use of the walk: its start, its turn and its ends, over plain lists of words.
-- Assumes nothing.
use Prim.Native.Nat.{ℕ, ◌+◌, ◌*◌, ◌≤◌, ◌<◌}
use native.Mathlib.Numerals.{add-one}
use native.Mathlib.Omega.{arith}
use mathlib.Core.Path.{◌≡◌, refl, sym, ◌∙◌}
use mathlib.Core.Bool.{Bool, true, false, not, ◌||◌}
use mathlib.Core.List.{List, [], ◌∷◌}
use mir.Syntax.{w64}
use mir.Val.{Fits}
use borrow.Author.Tests.{eq-eqb, ne_eqb, ltb-false}
use lib.ListN.{length, get_or, drop, drop_of_length-le}
use lib.Seq.{drop-cons}
use lib.Dec.{eqb, ltb}
use Rattle.lists.specs.Lists.{none}
use Rattle.lists.specs.Sort.{Row, le3, sorted}
use Rattle.sorts.specs.Rows.{rows}
use Rattle.sorts.specs.Heap.{row0}
use Rattle.sorts.proofs.RowLaws.{rows_at, rows-length}
use Rattle.answers.specs.Answer.{Judged, Refused}
use Rattle.rules.specs.declared.Walked.{Walked}
use Rattle.rules.specs.declared.Walked.TheVariants.{Tiled, Broken, Short}
use Rattle.rules.specs.Tiling.{misfit, walk_end, walk_from, walked, tiles, is_tiled, walked_rule, coverage_rule}
use Rattle.answers.specs.declared.Refusal.TheVariants.{NoActiveSegments}

-- ---- a misfit

or_right : (a b : Bool) → a || b ≡ false → b ≡ false
or_right true b e = let z : true ≡ false = e in cc
or_right false b e = e

pub fit-end : (x last s e : ℕ) → misfit x last s e ≡ false → e ≤ last
unfolding misfit
fit-end x last s e f = ltb-false last e (or_right (ltb e s) (ltb last e) (or_right (not (eqb s x)) (ltb e s || ltb last e) f))

-- ---- a row of the words

pub rows_drop : (a : List ℕ) (n i : ℕ) → length a ≡ 3 * n → i < n
    → drop i (rows a) ≡ (get_or a (3 * i) 0, get_or a (3 * i + 1) 0, get_or a (3 * i + 2) 0) ∷ drop (i + 1) (rows a)
rows_drop a n i l h =
    let k : i < length (rows a) = rw (rows-length a n l) h in
    rw (add-one i, drop-cons (rows a) i row0 k, rows_at a i (omega arith)) refl

pub rows-done : (a : List ℕ) (n i : ℕ) → length a ≡ 3 * n → n ≤ i → drop i (rows a) ≡ []
rows-done a n i l h = drop_of_length-le (rows a) {i = i} (rw (rows-length a n l) h)

-- ---- after the target's end

pub end-left : (a : List ℕ) (n i last : ℕ) → length a ≡ 3 * n → i < n
    → Broken last (get_or a (3 * i) 0) (get_or a (3 * i + 2) 0) ≡ walk_end last (drop i (rows a))
unfolding walk_end
end-left a n i last l h = rw (rows_drop a n i l h)

pub end_none : (a : List ℕ) (n i last : ℕ) → length a ≡ 3 * n → n ≤ i → Tiled ≡ walk_end last (drop i (rows a))
unfolding walk_end
end_none a n i last l h = rw (rows-done a n i l h)

-- ---- the walk

module _ (a : List ℕ) (n first last i x : ℕ) (l : length a ≡ 3 * n) (rest : walk_from last first (rows a) ≡ walk_from last x (drop i (rows a))) where
  pub walk-short : n ≤ i → Short x ≡ walk_from last first (rows a)
  unfolding walk_from
  walk-short h = rw (rest, rows-done a n i l h)

  module _ (below : i < n) (t : Bool) (said : t ≡ misfit x last (get_or a (3 * i) 0) (get_or a (3 * i + 1) 0)) where
    pub walk-broken : t ≡ true → (v : Walked) → v ≡ Broken x (get_or a (3 * i) 0) (get_or a (3 * i + 2) 0) → v ≡ walk_from last first (rows a)
    unfolding walk_from
    walk-broken told v e = rw (e, rest, rows_drop a n i l below, ← said, told)

    pub walk_ends : t ≡ false → get_or a (3 * i + 1) 0 ≡ last → (v : Walked) → v ≡ walk_end last (drop (i + 1) (rows a)) → v ≡ walk_from last first (rows a)
    unfolding walk_from
    walk_ends told same v e = rw (e, rest, rows_drop a n i l below, ← said, told, eq-eqb _ _ same)

    pub walk-next : t ≡ false → (get_or a (3 * i + 1) 0 ≡ last → ⊥)
        → walk_from last first (rows a) ≡ walk_from last (get_or a (3 * i + 1) 0 + 1) (drop (i + 1) (rows a))
    unfolding walk_from
    walk-next told other = rw (rest, rows_drop a n i l below, ← said, told, ne_eqb _ _ other)

pub next_fits : (x last s e : ℕ) (t : Bool) → t ≡ misfit x last s e → t ≡ false → (e ≡ last → ⊥) → Fits w64 last → Fits w64 (e + 1)
next_fits x last s e t said told other fits = let h : e ≤ last = fit-end x last s e (sym said ∙ told) in omega arith

-- ---- the callers

none_rows : (a : List ℕ) (n : ℕ) → length a ≡ 3 * n → (n ≡ 0 → ⊥) → none (rows a) ≡ false
none_rows a n l h = by (rows a) (rows-length a n l)
  where
    by : (r : List Row) → length r ≡ n → none r ≡ false
    by [] e = absurd (h (sym e))
    by (x ∷ r) e = refl

not_tiled : (w : Walked) → (w ≡ Tiled → ⊥) → false ≡ is_tiled w
not_tiled Tiled h = absurd (h refl)
not_tiled (Broken x start id) h = refl
not_tiled (Short x) h = refl

-- k is what the sort left of l
module _ (l k : List ℕ) (n : ℕ) (len : length l ≡ 3 * n) (s : rows k ≡ sorted le3 (rows l)) where
  pub covers-told : (first last : ℕ) (w told : Walked) (b : Bool) → w ≡ walk_from last first (rows k) → w ≡ told → b ≡ is_tiled told → b ≡ tiles first last (rows l)
  unfolding tiles walked
  covers-told first last w told b said is v = rw (v, ← is, said, s) refl

  pub covers-not : (first last : ℕ) (w : Walked) → w ≡ walk_from last first (rows k) → (w ≡ Tiled → ⊥) → false ≡ tiles first last (rows l)
  unfolding tiles walked
  covers-not first last w said other = rw (← s, ← said) (not_tiled w other)

  pub coverage-walk : (w : Walked) (r : Judged) → (n ≡ 0 → ⊥) → w ≡ walk_from 65535 0 (rows k) → r ≡ walked_rule w → r ≡ coverage_rule (rows l)
  unfolding coverage_rule walked
  coverage-walk w r some said v = rw (v, none_rows l n len some, said, s) refl

pub coverage_none : (l : List ℕ) (n : ℕ) (r : Judged) → length l ≡ 3 * n → n ≡ 0 → r ≡ Refused NoActiveSegments → r ≡ coverage_rule (rows l)
unfolding coverage_rule
coverage_none l n r len z v = by (rows l) (rows-length l n len)
  where
    by : (t : List Row) → length t ≡ n → r ≡ coverage_rule t
    by [] e = v
    by (x ∷ t) e = absurd (omega arith)
