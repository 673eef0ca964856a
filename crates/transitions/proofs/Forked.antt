-- What the functions of forks and joins use of the rules' tests: how many parents, one each, one with several.
-- Assumes nothing.
use Prim.Native.Nat.{ℕ, ◌+◌, ◌*◌, ◌≤◌, ◌<◌}
use native.Mathlib.Numerals.{add-one}
use native.Mathlib.Omega.{arith}
use mathlib.Core.Path.{◌≡◌, refl, sym, ap, ◌∙◌}
use mathlib.Core.Bool.{true, false}
use mathlib.Core.List.{List, [], ◌∷◌}
use borrow.Author.Tests.{eq-eqb, ne_eqb}
use lib.Dec.{ltb}
use lib.ListN.{length, get_or, drop, drop_of_length-le}
use lib.Seq.{drop-cons}
use Rattle.words.specs.Table.{ids, where_is, At, Nothing}
use Rattle.rules.specs.Model.{Segment, lookup}
use Rattle.rules.specs.Tables.{held_width, parents_at}
use Rattle.rules.specs.Tiling.{parent_count, all_single, one_merged}
use Rattle.held.specs.declared.Held.{Held}
use Rattle.held.specs.Front.{segments_of}
use Rattle.transitions.proofs.Rowed.{found_none, found-row, found_some, parents-length}

-- ---- the parents of the segment with an id

module _ (held : Held) (id : ℕ) where
  pub count_none : Nothing ≡ where_is (ids held.rows.now held_width held.count) id → 0 ≡ parent_count (lookup id (segments_of held))
  count_none said = rw (found_none held id said) refl

  pub count-some : (i r : ℕ) → At i ≡ where_is (ids held.rows.now held_width held.count) id → r ≡ parents_at held.rows.now (i * held_width) → r ≡ parent_count (lookup id (segments_of held))
  count-some i r said v = rw (found_some held id i said) (v ∙ sym (parents-length held i (found-row held id i said)))

-- ---- each has one parent

module _ (ss : List Segment) (l : List ℕ) (i : ℕ) (rest : all_single ss l ≡ all_single ss (drop i l)) where
  pub single_end : length l ≤ i → true ≡ all_single ss l
  unfolding all_single
  single_end h = rw (rest, drop_of_length-le l {i = i} h)

  module _ (below : i < length l) (p : ℕ) (said : p ≡ parent_count (lookup (get_or l i 0) ss)) where
    next : drop i l ≡ get_or l i 0 ∷ drop (i + 1) l
    next = rw (add-one i, drop-cons l i 0 below) refl

    pub single_other : (p ≡ 1 → ⊥) → false ≡ all_single ss l
    unfolding all_single
    single_other h = rw (rest, next, ← said, ne_eqb p 1 h)

    pub single_next : p ≡ 1 → all_single ss l ≡ all_single ss (drop (i + 1) l)
    unfolding all_single
    single_next h = rw (rest, next, ← said, eq-eqb p 1 h)

-- ---- one only, with several parents

pub merged_other : (ss : List Segment) (l : List ℕ) → (length l ≡ 1 → ⊥) → false ≡ one_merged ss l
unfolding one_merged
merged_other ss [] h = refl
merged_other ss (x ∷ []) h = absurd (h refl)
merged_other ss (x ∷ y ∷ l) h = refl

pub merged_one : (ss : List Segment) (l : List ℕ) (p : ℕ) → length l ≡ 1 → p ≡ parent_count (lookup (get_or l 0 0) ss) → ltb 1 p ≡ one_merged ss l
unfolding one_merged
merged_one ss [] p h said = absurd (omega arith)
merged_one ss (x ∷ []) p h said = ap (ltb 1) said
merged_one ss (x ∷ y ∷ l) p h said = absurd (omega arith)
