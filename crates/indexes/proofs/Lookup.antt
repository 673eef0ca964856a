-- A placement looked up through the index: what `find_row` answers on the words of the index is what `site_of` says of the list.
--     site-found, site-missing, place-below     what a caller of `find_row` on an index of placements cites
-- Assumes nothing.
use Prim.Native.Nat.{ℕ, zero, suc, ◌+◌, ◌*◌, ◌≤◌, ◌<◌, zero-le, suc-le-suc}
use native.Mathlib.Nat.{le_of_suc-le-suc, not-suc-le-zero}
use native.Mathlib.Omega.{arith}
use mathlib.Core.Bool.{true, false, cond}
use mathlib.Core.Path.{◌≡◌, refl, sym, ap, ◌∙◌}
use mathlib.Core.Option.{none, some}
use mathlib.Core.List.{List, [], ◌∷◌, map}
use mathlib.Core.Logic.{⊎_elim}
use lib.ListN.{length, get_or, length-map, get_or-map}
use lib.Dec.{eqb, leb}
use borrow.Author.Tests.{le-leb, lt-leb, eq-eqb, ne_eqb}
use Rattle.words.specs.Table.{ids, where_is, Ascends, Found, At, Nothing}
use Rattle.lists.proofs.Cases.{lt-or-le, eq-or-ne}
use Rattle.words.proofs.TableLaws.{length_ids, ids_at, at-is, nothing_is}
use Rattle.lists.specs.Sort.{Row, insert, sorted}
use Rattle.sorts.specs.Rows.{rows}
use Rattle.sorts.specs.Heap.{row0, at}
use Rattle.sorts.proofs.RowLaws.{rows_at}
use Rattle.rules.specs.Model.{Placement, site_of}
use Rattle.rules.specs.Tables.{place_width, placement_at, placements}
use Rattle.indexes.specs.Index.{placement_index}
use Rattle.indexes.proofs.Keys.{placement_of_key, place_le, sorted-placements, place-index-at, length-place-index}

-- ---- on a list of placements

site-hit : (d : Placement) (l : List Placement) (id q : ℕ) → q < length l → (get_or l q d).id ≡ id → ((j : ℕ) → j < q → (get_or l j d).id ≡ id → ⊥)
    → site_of id l ≡ some (get_or l q d).site
site-hit d [] id q h e n = absurd (not-suc-le-zero h)
site-hit d (p ∷ l) id zero h e n = rw (eq-eqb p.id id e) refl
site-hit d (p ∷ l) id (suc q) h e n =
    rw (ne_eqb p.id id (n 0 (suc-le-suc zero-le))) (site-hit d l id q (le_of_suc-le-suc h) e (λ j k. n (suc j) (suc-le-suc k)))

site-none : (d : Placement) (l : List Placement) (id : ℕ) → ((j : ℕ) → j < length l → (get_or l j d).id ≡ id → ⊥) → site_of id l ≡ none
site-none d [] id n = refl
site-none d (p ∷ l) id n = rw (ne_eqb p.id id (n 0 (suc-le-suc zero-le))) (site-none d l id (λ j k. n (suc j) (suc-le-suc k)))

site-insert : (id : ℕ) (x : Placement) (l : List Placement) → site_of id (insert place_le x l) ≡ site_of id (x ∷ l)
site-insert id x [] = refl
site-insert id x (y ∷ l) =
    ⊎_elim
    (λ (h : y.id < x.id).
    let e : leb x.id y.id ≡ false = lt-leb x.id y.id h in
    rw e
    (ap (cond (eqb y.id id) (some y.site)) (site-insert id x l)
    ∙ ⊎_elim
    (λ (k : y.id ≡ id). let z : x.id ≡ id → ⊥ = λ f. omega arith in rw (eq-eqb y.id id k, ne_eqb x.id id z) refl)
    (λ (k : y.id ≡ id → ⊥). rw (ne_eqb y.id id k) refl)
    (eq-or-ne y.id id)))
    (λ (h : x.id ≤ y.id). let e : leb x.id y.id ≡ true = le-leb x.id y.id h in rw e refl)
    (lt-or-le y.id x.id)

-- the first placement with an id is the first with it in ascending order: the sort is stable
site-sorted : (id : ℕ) (l : List Placement) → site_of id (sorted place_le l) ≡ site_of id l
site-sorted id [] = refl
site-sorted id (x ∷ l) = site-insert id x (sorted place_le l) ∙ ap (cond (eqb x.id id) (some x.site)) (site-sorted id l)

-- ---- on the words of an index

module _ (index places : List ℕ) (m : ℕ) (len : length index ≡ 3 * m) (is : rows index ≡ placement_index places m) where
  abbrev d : Placement
  d = placement_of_key places row0

  abbrev l : List Placement
  l = map (placement_of_key places) (placement_index places m)

  size : length l ≡ m
  size = length-map (placement_index places m) (placement_of_key places) ∙ length-place-index places m

  word : (j : ℕ) → j < m → at (placement_index places m) j ≡ (get_or index (3 * j) 0, get_or index (3 * j + 1) 0, get_or index (3 * j + 2) 0)
  word j h = ap (λ (t : List Row). at t j) (sym is) ∙ rows_at index j (omega arith)

  pub place-below : (q : ℕ) → q < m → get_or index (q * 3 + 1) 0 < m
  place-below q h =
      let e : get_or index (3 * q + 1) 0 ≡ (at (placement_index places m) q).1 = sym (ap (λ (t : Row). t.1) (word q h)) in
      let f : q * 3 + 1 ≡ 3 * q + 1 = omega arith in
      rw (f, e) (place-index-at places m q h).to

  id-of : (j : ℕ) → j < m → (get_or l j d).id ≡ get_or (ids index 3 m) j 0
  id-of j h =
      let e : 3 * j ≡ j * 3 = omega arith in
      ap (λ (p : Placement). p.id) (get_or-map (placement_of_key places) (placement_index places m) j row0)
      ∙ sym (place-index-at places m j h).id ∙ ap (λ (t : Row). t.0) (word j h) ∙ rw e (sym (ids_at index 3 m j h))

  all : (id : ℕ) → site_of id (placements places m) ≡ site_of id l
  all id = sym (site-sorted id (placements places m)) ∙ ap (site_of id) (sorted-placements places m)

  module _ (asc : Ascends (ids index 3 m)) (id : ℕ) (f : Found) (said : f ≡ where_is (ids index 3 m) id) where
    pub site-below : (q : ℕ) → f ≡ At q → q < m
    site-below q told = omega (arith, (at-is (ids index 3 m) id q (sym said ∙ told)).0, length_ids index 3 m)

    pub site-found : (q : ℕ) → f ≡ At q → site_of id (placements places m) ≡ some (placement_at places (get_or index (q * 3 + 1) 0 * place_width)).site
    site-found q told =
        let h : q < m = site-below q told in
        let here : get_or (ids index 3 m) q 0 ≡ id = (at-is (ids index 3 m) id q (sym said ∙ told)).1 in
        let e : get_or l q d ≡ placement_at places (get_or index (q * 3 + 1) 0 * place_width) =
        let g : q * 3 + 1 ≡ 3 * q + 1 = omega arith in
        get_or-map (placement_of_key places) (placement_index places m) q row0 ∙ rw g (ap (λ (t : Row). placement_of_key places t) (word q h)) in
        all id
        ∙ site-hit d l id q (rw size h) (id-of q h ∙ here)
        (λ j k s. let z : get_or (ids index 3 m) j 0 ≡ id = sym (id-of j (omega arith)) ∙ s in omega (arith, asc j q k (omega (arith, length_ids index 3 m))))
        ∙ ap (λ (p : Placement). some p.site) e

    pub site-missing : f ≡ Nothing → site_of id (placements places m) ≡ none
    site-missing told =
        all id
        ∙ site-none d l id
        (λ j k s.
        let h : j < m = rw size at k in
        nothing_is (ids index 3 m) id (sym said ∙ told) j (omega (arith, length_ids index 3 m)) (sym (id-of j h) ∙ s))
