-- What the index of the pairs says of the segments: where ids are distinct, (x, y) is one of its pairs exactly where y is in the list of x.
--     index-ordered     its rows are in order: what `has_pair` requires
--     linked            25, for parents and for children
--     distinct          rows without twins are distinct segments
-- By induction on the segments, for any list of a segment's. Assumes nothing.
use Prim.Native.Nat.{ℕ, zero, suc, ◌+◌, ◌*◌, ◌<◌, ◌≤◌}
use native.Mathlib.Omega.{arith}
use mathlib.Core.Bool.{Bool, true, false, ◌||◌, ◌&&◌}
use mathlib.Core.Option.{some}
use mathlib.Core.Path.{◌≡◌, refl, sym, ap, ◌∙◌}
use mathlib.Core.List.{List, [], ◌∷◌, ◌++◌, map}
use mathlib.Core.Logic.{⊎_elim}
use lib.ListN.{get_or}
use lib.Dec.{eqb}
use borrow.Author.Tests.{eq-eqb, ne_eqb}
use Rattle.lists.specs.Lists.{has, ◌∉◌}
use Rattle.lists.specs.Sort.{Row, le3, sorted}
use Rattle.lists.proofs.Cases.{eq-or-ne}
use Rattle.lists.proofs.SortLaws.{sorted-asc, asc-lt}
use Rattle.lists.proofs.RowOrder.{order3, no}
use Rattle.lists.proofs.Tests.{any-sorted}
use Rattle.sorts.specs.Heap.{row0}
use Rattle.types.specs.declared.records.Side.{Side}
use Rattle.rules.specs.Model.{Segment, id_of, ids_of, lookup}
use Rattle.rules.specs.Tables.{parents_at, children_at, segments_from}
use Rattle.words.specs.Twins.{NoTwins}
use Rattle.lookups.specs.PairSearch.{has_pair, Ordered}
use Rattle.lookups.specs.Sides.{Distinct, pair_of, pairs_of, side_of, pair_index}

pub sorted-ordered : (l : List Row) → Ordered (sorted le3 l)
sorted-ordered l p q h k = asc-lt le3 order3 row0 (sorted le3 l) (sorted-asc le3 order3 l) p q h k

pub index-ordered : (side : Side) (width : ℕ) (table edges : List ℕ) (n : ℕ) → Ordered (pair_index side width table edges n)
unfolding pair_index
index-ordered side width table edges n = sorted-ordered (pairs_of (side_of side) (segments_from width table edges n 0 0))

pair-sorted : (x y : ℕ) (l : List Row) → has_pair x y (sorted le3 l) ≡ has_pair x y l
pair-sorted x y l = any-sorted le3 (has_pair x y) (λ (r : Row). eqb r.0 x && eqb r.1 y) (λ r l. refl) l

pair-list : (x y id : ℕ) (ys : List ℕ) (l : List Row) → has_pair x y (map (pair_of id) ys ++ l) ≡ (eqb id x && has y ys) || has_pair x y l
pair-list x y id [] l = by (eqb id x)
  where
    by : (a : Bool) → has_pair x y l ≡ (a && false) || has_pair x y l
    by true = refl
    by false = refl
pair-list x y id (z ∷ ys) l = ap (λ (b : Bool). (eqb id x && eqb z y) || b) (pair-list x y id ys l) ∙ by (eqb id x) (eqb z y) (has y ys) (has_pair x y l)
  where
    by : (a b d e : Bool) → (a && b) || ((a && d) || e) ≡ (a && (b || d)) || e
    by true true d e = refl
    by true false d e = refl
    by false b d e = refl

or-false : (b : Bool) → b || false ≡ b
or-false true = refl
or-false false = refl

or_left : (a b : Bool) → a || b ≡ false → (a ≡ false) × (b ≡ false)
or_left true b e = no e
or_left false b e = (refl, e)

module _ (list : Segment → List ℕ) (x y : ℕ) where
  pair-none : (ss : List Segment) → x ∉ ids_of ss → has_pair x y (pairs_of list ss) ≡ false
  pair-none [] h = refl
  pair-none (s ∷ ss) h =
      let p = or_left (eqb (id_of s) x) (has x (ids_of ss)) h in
      pair-list x y (id_of s) (list s) (pairs_of list ss) ∙ rw p.0 (pair-none ss p.1)

  pair-of : (ss : List Segment) (s : Segment) → Distinct ss → lookup x ss ≡ some s → has_pair x y (pairs_of list ss) ≡ has y (list s)
  pair-of [] s d e = let z : ◌≡◌ {A = ℕ} 0 1 = cc in absurd (omega arith)
  pair-of (t ∷ ss) s d e =
      pair-list x y (id_of t) (list t) (pairs_of list ss)
      ∙ ⊎_elim
      (λ (h : id_of t ≡ x).
      let q : eqb (id_of t) x ≡ true = eq-eqb (id_of t) x h in
      let f : some t ≡ some s = sym (rw q refl) ∙ e in
      let g : t ≡ s = cc in
      let z : has_pair x y (pairs_of list ss) ≡ false = pair-none ss (rw h at d.0) in
      rw (q, z) (or-false (has y (list t)) ∙ ap (λ (u : Segment). has y (list u)) g))
      (λ (h : id_of t ≡ x → ⊥).
      let q : eqb (id_of t) x ≡ false = ne_eqb (id_of t) x h in
      let f : lookup x ss ≡ some s = sym (rw q refl) ∙ e in
      rw q (pair-of ss s d.1 f))
      (eq-or-ne (id_of t) x)

  -- 25: what `has_pair` answers on the index
  pub linked : (ss : List Segment) (s : Segment) → Distinct ss → lookup x ss ≡ some s → has_pair x y (sorted le3 (pairs_of list ss)) ≡ has y (list s)
  linked ss s d e = pair-sorted x y (pairs_of list ss) ∙ pair-of ss s d e

-- the same of the index of a table
pub linked-index : (side : Side) (width : ℕ) (table edges : List ℕ) (n x y : ℕ) (s : Segment) → Distinct (segments_from width table edges n 0 0)
    → lookup x (segments_from width table edges n 0 0) ≡ some s → has_pair x y (pair_index side width table edges n) ≡ has y (side_of side s)
unfolding pair_index
linked-index side width table edges n x y s d e = linked (side_of side) x y (segments_from width table edges n 0 0) s d e

-- ---- distinct rows are distinct segments

module _ (width : ℕ) (table edges : List ℕ) where
  lacks : (x n i place : ℕ) → ((b : ℕ) → i ≤ b → b < i + n → x ≡ get_or table (b * width) 0 → ⊥) → x ∉ ids_of (segments_from width table edges n i place)
  lacks x zero i place h = refl
  lacks x (suc n) i place h =
      rw (ne_eqb (get_or table (i * width) 0) x (λ e. h i (omega arith) (omega arith) (sym e)))
      (lacks x n (i + 1) (place + parents_at table (i * width) + children_at table (i * width)) (λ b p q. h b (omega arith) (omega arith)))

  distinct_from : (m n i place : ℕ) → NoTwins table width m → i + n ≡ m → Distinct (segments_from width table edges n i place)
  distinct_from m zero i place t e = tt
  distinct_from m (suc n) i place t e =
      let next : ℕ = place + parents_at table (i * width) + children_at table (i * width) in (
        lacks (get_or table (i * width) 0) n (i + 1) next (λ b p q. t i b (omega arith) (omega arith)),
        distinct_from m n (i + 1) next t (omega arith),
      )

  pub distinct : (n : ℕ) → NoTwins table width n → Distinct (segments_from width table edges n 0 0)
  distinct n t = distinct_from n n 0 0 t (omega arith)
