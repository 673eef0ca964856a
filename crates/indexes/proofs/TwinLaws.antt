-- The neighbours of an index tell the twins: `paired (sorted le3 K) zeros` is what `twin` says of each row, where K are the keys of the rows.
-- By three facts of the index: each place holds the key of a row, each row has a place, and a later place has a larger id, or the same id
-- and a later row. Assumes nothing.
use mathlib.Core.Path.{◌≡◌, refl, sym, ap, ◌∙◌}
use mathlib.Core.Logic.{◌⊎◌, inl, inr, ⊎_elim}
use mathlib.Core.List.{List, [], ◌∷◌}
use Prim.Native.Nat.{ℕ, zero, suc, ◌-◌, ◌<◌, ◌≤◌, zero-le, suc-le-suc}
use native.Mathlib.Omega.{arith}
use native.Mathlib.Nat.{not-suc-le-zero, le_of_suc-le-suc}
use lib.ListN.{length, get_or, take, set, replicate, length-set, length-replicate, get_or-replicate}
use lib.Seq.{get_or-set_same, get_or-set_other, get_or-take, length-take-le}
use borrow.Author.Tests.{eq-eqb, ne_eqb}
use Rattle.lists.specs.Lists.{◌∈◌, ◌∉◌}
use Rattle.lists.specs.Sort.{Row, le3, sorted}
use Rattle.lists.proofs.Cases.{lt-or-le, eq-or-ne}
use Rattle.lists.proofs.HasAt.{has-at, has-none}
use Rattle.lists.proofs.SortLaws.{in-at, at_in, in-sorted}
use Rattle.lists.proofs.RowOrder.{order3}
use Rattle.words.specs.Twins.{Twins}
use Rattle.sorts.specs.Heap.{row0, at}
use Rattle.indexes.specs.Marks.{Keyed, marked, paired}
use Rattle.indexes.proofs.Keyed.{sorted-in, up}

-- ---- neighbours with one id, of which the second is row k

pub record Pair (r : List Row) (k p : ℕ) : Type 0 where
  pub fits : suc p < length r
  pub same : (at r p).0 ≡ (at r (suc p)).0
  pub here : (at r (suc p)).1 ≡ k

pub record Earlier (l : List ℕ) (k j : ℕ) : Type 0 where
  pub lt : j < k
  pub same : get_or l j 0 ≡ get_or l k 0

module _ (l : List ℕ) (K : List Row) (keyed : Keyed l K) where
  abbrev S : List Row
  S = sorted le3 K

  -- the place of row k
  place : (k : ℕ) → k < length l → (p : ℕ) × (p < length S) × ((at S p).0 ≡ get_or l k 0) × ((at S p).1 ≡ k)
  place k h =
      let r = in-at row0 (at K k) S (in-sorted le3 order3 (at K k) K (at_in row0 K k (omega (arith, keyed.len)))) in
      (r.0, r.1, ap (λ (z : Row). z.0) r.2 ∙ keyed.id k h, ap (λ (z : Row). z.1) r.2 ∙ keyed.row k h)

  module _ (k : ℕ) (h : k < length l) where
    pair-of : (j : ℕ) → Earlier l k j → (p : ℕ) × Pair S k p
    pair-of j e =
        let q = place k h in
        let q' = place j (omega (arith, e.lt)) in
        let i0 : (at S q.0).0 ≡ get_or l k 0 = q.2 in
        let i1 : (at S q.0).1 ≡ k = q.3 in
        let j0 : (at S q'.0).0 ≡ get_or l j 0 = q'.2 in
        let j1 : (at S q'.0).1 ≡ j = q'.3 in
        ⊎_elim
        (λ (a : q'.0 < q.0).
        let s : suc (q.0 - 1) ≡ q.0 = omega arith in
        let below : (at S (q.0 - 1)).0 ≤ get_or l k 0 =
        ⊎_elim (λ u. omega (arith, u, i0)) (λ u. omega (arith, u.0, i0)) (up l K keyed (q.0 - 1) q.0 (omega arith) q.1) in
        let above : get_or l k 0 ≤ (at S (q.0 - 1)).0 =
        ⊎_elim (λ (f : q'.0 ≡ q.0 - 1). rw (sym f) (omega (arith, j0, e.same)))
        (λ (f : q'.0 ≡ q.0 - 1 → ⊥).
        ⊎_elim (λ u. omega (arith, u, j0, e.same)) (λ u. omega (arith, u.0, j0, e.same)) (up l K keyed q'.0 (q.0 - 1) (omega arith) (omega (arith, q.1))))
        (eq-or-ne q'.0 (q.0 - 1)) in
        (q.0 - 1, record { fits = rw s q.1; same = rw s (omega arith); here = rw s i1 }))
        (λ (a : q.0 ≤ q'.0).
        ⊎_elim (λ (f : q.0 ≡ q'.0). let g : k ≡ j = sym i1 ∙ ap (λ (z : ℕ). (at S z).1) f ∙ j1 in absurd (omega (arith, e.lt)))
        (λ (f : q.0 ≡ q'.0 → ⊥).
        ⊎_elim (λ u. absurd (omega (arith, u, i0, j0, e.same))) (λ u. absurd (omega (arith, u.1, i1, j1, e.lt))) (up l K keyed q.0 q'.0 (omega arith) q'.1))
        (eq-or-ne q.0 q'.0))
        (lt-or-le q'.0 q.0)

    earlier-of : (p : ℕ) → Pair S k p → (j : ℕ) × Earlier l k j
    earlier-of p e =
        let a = sorted-in l K keyed (at S p) (at_in row0 S p (omega (arith, e.fits))) in
        let b = sorted-in l K keyed (at S (suc p)) (at_in row0 S (suc p) e.fits) in
        let s : get_or l (at S p).1 0 ≡ get_or l k 0 = sym a.1 ∙ e.same ∙ b.1 ∙ ap (λ (z : ℕ). get_or l z 0) e.here in
        ⊎_elim (λ u. absurd (omega (arith, u, e.same))) (λ u. ((at S p).1, record { lt = omega (arith, u.1, e.here); same = s })) (up l K keyed p (suc p) (omega arith) e.fits)

-- ---- the fold over neighbours

pub length-paired : (r : List Row) (ys : List ℕ) → length (paired r ys) ≡ length ys
length-paired [] ys = refl
length-paired (x ∷ []) ys = refl
length-paired (x ∷ y ∷ r) ys =
    length-paired (y ∷ r) (marked x.0 y.0 y.1 ys)
    ∙ ⊎_elim (λ (e : x.0 ≡ y.0). rw (eq-eqb x.0 y.0 e) (length-set ys y.1 1)) (λ (e : x.0 ≡ y.0 → ⊥). rw (ne_eqb x.0 y.0 e) refl) (eq-or-ne x.0 y.0)

-- a mark stays
stays : (r : List Row) (ys : List ℕ) (k : ℕ) → k < length ys → get_or ys k 0 ≡ 1 → get_or (paired r ys) k 0 ≡ 1
stays [] ys k h e = e
stays (x ∷ []) ys k h e = e
stays (x ∷ y ∷ r) ys k h e =
    ⊎_elim
    (λ (a : x.0 ≡ y.0).
    let m : marked x.0 y.0 y.1 ys ≡ set ys y.1 1 = rw (eq-eqb x.0 y.0 a) refl in
    rw m (stays (y ∷ r) (set ys y.1 1) k (rw length-set h)
    (⊎_elim (λ (b : k ≡ y.1). rw (sym b) (get_or-set_same ys k 1 0 h)) (λ (b : k ≡ y.1 → ⊥). get_or-set_other ys y.1 k 1 0 b ∙ e) (eq-or-ne k y.1))))
    (λ (a : x.0 ≡ y.0 → ⊥). let m : marked x.0 y.0 y.1 ys ≡ ys = rw (ne_eqb x.0 y.0 a) refl in rw m (stays (y ∷ r) ys k h e))
    (eq-or-ne x.0 y.0)

-- a pair marks its row
pairs : (r : List Row) (ys : List ℕ) (k p : ℕ) → k < length ys → Pair r k p → get_or (paired r ys) k 0 ≡ 1
pairs [] ys k p h e = absurd (not-suc-le-zero e.fits)
pairs (x ∷ []) ys k p h e = absurd (not-suc-le-zero (le_of_suc-le-suc e.fits))
pairs (x ∷ y ∷ r) ys k zero h e =
    let m : marked x.0 y.0 y.1 ys ≡ set ys k 1 = rw (eq-eqb x.0 y.0 e.same, e.here) refl in
    rw m (stays (y ∷ r) (set ys k 1) k (rw length-set h) (get_or-set_same ys k 1 0 h))
pairs (x ∷ y ∷ r) ys k (suc p) h e =
    pairs (y ∷ r) (marked x.0 y.0 y.1 ys) k p
    (⊎_elim (λ (a : x.0 ≡ y.0). rw (eq-eqb x.0 y.0 a, length-set) h) (λ (a : x.0 ≡ y.0 → ⊥). rw (ne_eqb x.0 y.0 a) h) (eq-or-ne x.0 y.0))
    (record { fits = le_of_suc-le-suc e.fits; same = e.same; here = e.here })

-- and nothing else does
alone : (r : List Row) (ys : List ℕ) (k : ℕ) → ((p : ℕ) → Pair r k p → ⊥) → get_or (paired r ys) k 0 ≡ get_or ys k 0
alone [] ys k n = refl
alone (x ∷ []) ys k n = refl
alone (x ∷ y ∷ r) ys k n =
    alone (y ∷ r) (marked x.0 y.0 y.1 ys) k (λ p e. n (suc p) (record { fits = suc-le-suc e.fits; same = e.same; here = e.here }))
    ∙ ⊎_elim
    (λ (a : x.0 ≡ y.0).
    rw (eq-eqb x.0 y.0 a) (get_or-set_other ys y.1 k 1 0 (λ b. n 0 (record { fits = suc-le-suc (suc-le-suc zero-le); same = a; here = sym b }))))
    (λ (a : x.0 ≡ y.0 → ⊥). rw (ne_eqb x.0 y.0 a) refl)
    (eq-or-ne x.0 y.0)

-- ---- the theorem

module _ (l : List ℕ) where
  -- an earlier row with the same id, or none
  look : (k : ℕ) → k < length l → (n : ℕ) → n ≤ k → ((j : ℕ) × Earlier l k j) ⊎ ((j : ℕ) → j < n → get_or l j 0 ≡ get_or l k 0 → ⊥)
  look k h zero g = inr (λ j q. absurd (not-suc-le-zero q))
  look k h (suc n) g =
      ⊎_elim (λ r. inl r)
      (λ none.
      ⊎_elim (λ (e : get_or l n 0 ≡ get_or l k 0). inl (n, record { lt = g; same = e }))
      (λ (e : get_or l n 0 ≡ get_or l k 0 → ⊥).
      inr (λ j q s. ⊎_elim (λ (a : j ≡ n). e (sym (ap (λ (z : ℕ). get_or l z 0) a) ∙ s)) (λ (a : j ≡ n → ⊥). none j (omega arith) s) (eq-or-ne j n)))
      (eq-or-ne (get_or l n 0) (get_or l k 0)))
      (look k h n (omega arith))

  pub tells : (K : List Row) → Keyed l K → Twins l (paired (sorted le3 K) (replicate (length l) 0))
  tells K keyed = record {
    len = length-paired (sorted le3 K) (replicate (length l) 0) ∙ length-replicate (length l) 0;
    each = λ k h.
        let small : length (take k l) ≡ k = length-take-le k l (omega arith) in
        ⊎_elim
        (λ (r : (j : ℕ) × Earlier l k j).
        let p = pair-of l K keyed k h r.0 r.1 in
        let o : get_or l k 0 ∈ take k l = has-at (get_or l k 0) (take k l) r.0 (omega (arith, r.1.lt)) (get_or-take k l r.0 0 r.1.lt ∙ r.1.same) in
        rw o (pairs (sorted le3 K) (replicate (length l) 0) k p.0 (rw length-replicate h) p.1))
        (λ (none : (j : ℕ) → j < k → get_or l j 0 ≡ get_or l k 0 → ⊥).
        let o : get_or l k 0 ∉ take k l =
        has-none (get_or l k 0) (take k l) (λ j q s. let j' : j < k = omega arith in none j j' (sym (get_or-take k l j 0 j') ∙ s)) in
        rw o (alone (sorted le3 K) (replicate (length l) 0) k (λ p e. let r = earlier-of l K keyed k h p e in none r.0 r.1.lt r.1.same)
        ∙ get_or-replicate (length l) k 0 0 h))
        (look k h k (omega arith));
  }

-- one neighbour more
pub paired-more : (r : List Row) (ys : List ℕ) (p : ℕ) → suc p < length r
    → paired (take (suc (suc p)) r) ys ≡ marked (at r p).0 (at r (suc p)).0 (at r (suc p)).1 (paired (take (suc p) r) ys)
paired-more [] ys p h = absurd (not-suc-le-zero h)
paired-more (x ∷ []) ys p h = absurd (not-suc-le-zero (le_of_suc-le-suc h))
paired-more (x ∷ y ∷ r) ys zero h = refl
paired-more (x ∷ y ∷ r) ys (suc p) h = paired-more (y ∷ r) (marked x.0 y.0 y.1 ys) p (le_of_suc-le-suc h)

pub paired-one : (r : List Row) (ys : List ℕ) → paired (take 1 r) ys ≡ ys
paired-one [] ys = refl
paired-one (x ∷ r) ys = refl
