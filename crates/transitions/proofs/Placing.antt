-- The ranges that are placed one by one: of a list of ids, and of the Active rows. What is to be placed in all is what stands and then what is
-- to come.
-- Assumes nothing.
use Prim.Native.Nat.{ℕ, ◌+◌, ◌*◌, ◌≤◌, ◌<◌}
use native.Mathlib.Numerals.{add-one}
use native.Mathlib.Omega.{arith}
use mathlib.Core.Path.{◌≡◌, refl, sym, ap, ◌∙◌}
use mathlib.Core.Bool.{Bool, true, false, cond}
use mathlib.Core.List.{List, [], ◌∷◌, ◌++◌, append-nil, append_assoc}
use lib.Dec.{eqb}
use lib.ListN.{length, get_or, drop, drop_of_length-le, set}
use lib.Seq.{drop-cons, take-suc-set}
use Rattle.words.specs.Table.{ids, where_is, At, Nothing}
use Rattle.lists.specs.Sort.{Row}
use Rattle.sorts.specs.Rows.{rows}
use Rattle.sorts.proofs.RowLaws.{le-rows}
use Rattle.rules.specs.Model.{Segment, lookup}
use Rattle.rules.specs.Tables.{held_width}
use Rattle.rules.specs.Tiling.{range_of, range_found, ranges_of, active_of}
use Rattle.held.specs.declared.Held.{Held}
use Rattle.held.specs.Front.{segments_of}
use Rattle.transitions.specs.Ranges.{ranges, Grown, active_one}
use Rattle.transitions.specs.Edged.{segment_of}
use Rattle.transitions.proofs.Rowed.{found_none, found_some, segments-drop, segments-done}

-- the range x was written as row k
pub grown : (w w' : List ℕ) (k : ℕ) (x : Row) → 3 * k + 3 ≤ length w → rows w' ≡ set (rows w) k x → Grown w w' k (k + 1) (x ∷ [])
grown w w' k x room is =
    record { few = omega arith; here = rw (add-one k, is) (take-suc-set (rows w) k x (omega (arith, le-rows w (k + 1) (omega arith)))) }

-- the range of the segment with an id
module _ (held : Held) (id k : ℕ) (w : List ℕ) where
  pub grown-none : Nothing ≡ where_is (ids held.rows.now held_width held.count) id → Grown w w k k (range_found (lookup id (segments_of held)))
  grown-none said = rw (found_none held id said) (record { few = omega arith; here = sym (append-nil (ranges w k)) })

  pub grown-some : (i : ℕ) → At i ≡ where_is (ids held.rows.now held_width held.count) id → (w' : List ℕ) → Grown w w' k (k + 1) (range_of (segment_of held i) ∷ [])
      → Grown w w' k (k + 1) (range_found (lookup id (segments_of held)))
  grown-some i said w' o = rw (found_some held id i said) o

-- k ranges stand in w where i things are passed: they are all of `all` but those of the rest
pub record Placed (w : List ℕ) (k i : ℕ) (all rest : List Row) : Type 0 where
  pub few : k ≤ i
  pub here : all ≡ ranges w k ++ rest

pub placed-start : (w : List ℕ) (all : List Row) → Placed w 0 0 all all
placed-start w all = record { few = omega arith; here = refl }

placed-next : (w w' : List ℕ) (k r i : ℕ) (all more rest : List Row) → Placed w k i all (more ++ rest) → Grown w w' k r more → Placed w' r (i + 1) all rest
placed-next w w' k r i all more rest p g =
    record {
      few = omega (arith, p.few, g.few);
      here = p.here ∙ sym (append_assoc (ranges w k) more rest) ∙ ap (λ (t : List Row). t ++ rest) (sym g.here);
    }

placed_end : (w : List ℕ) (k i : ℕ) (all rest : List Row) → Placed w k i all rest → rest ≡ [] → ranges w k ≡ all
placed_end w k i all rest p z = sym (p.here ∙ ap (λ (t : List Row). ranges w k ++ t) z ∙ append-nil (ranges w k))

-- ---- the segments of a list of ids

module _ (ss : List Segment) (l w : List ℕ) (k i : ℕ) (p : Placed w k i (ranges_of ss l) (ranges_of ss (drop i l))) where
  pub listed_end : length l ≤ i → ranges w k ≡ ranges_of ss l
  unfolding ranges_of
  listed_end h = placed_end w k i (ranges_of ss l) (ranges_of ss (drop i l)) p (ap (ranges_of ss) (drop_of_length-le l {i = i} h))

  pub listed_next : i < length l → (w' : List ℕ) (r : ℕ) → Grown w w' k r (range_found (lookup (get_or l i 0) ss)) → Placed w' r (i + 1) (ranges_of ss l) (ranges_of ss (drop (i + 1) l))
  unfolding ranges_of
  listed_next below w' r o =
      let rest : ranges_of ss (drop i l) ≡ range_found (lookup (get_or l i 0) ss) ++ ranges_of ss (drop (i + 1) l) = rw (add-one i, drop-cons l i 0 below) refl in
      placed-next w w' k r i (ranges_of ss l) (range_found (lookup (get_or l i 0) ss)) (ranges_of ss (drop (i + 1) l)) (rw rest at p) o

-- ---- the Active rows

active-cons : (s : Segment) (ss : List Segment) → active_of (s ∷ ss) ≡ active_one s ++ active_of ss
unfolding active_of
active-cons s ss = by (eqb s.head.state 1)
  where
    by : (t : Bool) → cond t (range_of s ∷ active_of ss) (active_of ss) ≡ cond t (range_of s ∷ []) [] ++ active_of ss
    by true = refl
    by false = refl

module _ (held : Held) (w : List ℕ) (k i : ℕ) (p : Placed w k i (active_of (segments_of held)) (active_of (drop i (segments_of held)))) where
  pub active_end : held.count ≤ i → ranges w k ≡ active_of (segments_of held)
  unfolding active_of
  active_end h = placed_end w k i (active_of (segments_of held)) (active_of (drop i (segments_of held))) p (ap active_of (segments-done held i h))

  pub active_next : i < held.count → (w' : List ℕ) (r : ℕ) → Grown w w' k r (active_one (segment_of held i))
      → Placed w' r (i + 1) (active_of (segments_of held)) (active_of (drop (i + 1) (segments_of held)))
  active_next below w' r o =
      let rest : active_of (drop i (segments_of held)) ≡ active_one (segment_of held i) ++ active_of (drop (i + 1) (segments_of held)) =
      ap active_of (segments-drop held i below) ∙ active-cons (segment_of held i) (drop (i + 1) (segments_of held)) in
      placed-next w w' k r i (active_of (segments_of held)) (active_one (segment_of held i)) (active_of (drop (i + 1) (segments_of held))) (rw rest at p) o
