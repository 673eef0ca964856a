-- Keys in input order, whatever table they are of (`Keyed`), and what their sort is.
--     keyed-in, sorted-in     a key says the id of its row
--     sorted-as, sorted-ids   a sort of the keys is a stable sort by id: ids may repeat
--     up                      two places of the index: a larger id, or the same id and a later row
-- By the row numbers, which rise along the keys. Assumes nothing.
use Prim.Native.Nat.{ℕ, suc, ◌+◌, ◌<◌, ◌≤◌, zero-le, suc-le-suc}
use native.Mathlib.Omega.{arith}
use native.Mathlib.Nat.{zero-add}
use mathlib.Core.Bool.{Bool}
use mathlib.Core.Path.{◌≡◌, refl, sym, ap, ◌∙◌}
use mathlib.Core.List.{List, [], ◌∷◌, map}
use mathlib.Core.Logic.{◌⊎◌, inl, inr, ⊎_elim}
use lib.ListN.{length, get_or, length-map, get_or-map}
use lib.Seq.{ext_get_or}
use lib.Dec.{leb}
use borrow.Author.Tests.{lt-ltb, le-ltb, le-leb, lt-leb}
use Rattle.lists.specs.Sort.{Row, le3, sorted}
use Rattle.lists.proofs.Cases.{lt-or-le}
use Rattle.lists.proofs.SortLaws.{In, Once, sorted-asc, asc-lt, nd-sorted, in-at, at_in, once-at, of-sorted, length-sorted}
use Rattle.lists.proofs.RowOrder.{order3, Lex, to-lex}
use Rattle.lists.proofs.SortMap.{sorted-map, Agree}
use Rattle.sorts.specs.Heap.{row0, at}
use Rattle.indexes.specs.Marks.{Keyed}

-- the order of keys, where the first is of an earlier row
key-le : (x y : Row) → x.1 < y.1 → leb x.0 y.0 ≡ le3 x y
unfolding le3
key-le x y h =
    ⊎_elim
    (λ (a : x.0 < y.0). rw (lt-ltb x.0 y.0 a) (le-leb x.0 y.0 (omega arith)))
    (λ (a : y.0 ≤ x.0).
    ⊎_elim
    (λ (b : y.0 < x.0). rw (le-ltb x.0 y.0 a, lt-ltb y.0 x.0 b) (lt-leb x.0 y.0 b))
    (λ (b : x.0 ≤ y.0). rw (le-ltb x.0 y.0 a, le-ltb y.0 x.0 b, lt-ltb x.1 y.1 h) (le-leb x.0 y.0 b))
    (lt-or-le y.0 x.0))
    (lt-or-le x.0 y.0)

-- ---- row numbers from i on

abbrev Numbered : List Row → ℕ → Type 0
Numbered K i = (k : ℕ) → k < length K → (at K k).1 ≡ i + k

rest : (x : Row) (K : List Row) (i : ℕ) → Numbered (x ∷ K) i → Numbered K (suc i)
rest x K i n k h = let e : i + suc k ≡ suc i + k = omega arith in n (suc k) (suc-le-suc h) ∙ e

later : (x : Row) (K : List Row) (i : ℕ) → Numbered (x ∷ K) i → (y : Row) → In y K → x.1 < y.1
later x K i n y h =
    let r = in-at row0 y K h in
    let a : x.1 ≡ i + 0 = n 0 (suc-le-suc zero-le) in
    let b : y.1 ≡ i + suc r.0 = sym (ap (λ (t : Row). t.1) r.2) ∙ n (suc r.0) (suc-le-suc r.1) in
    omega arith

once : (K : List Row) (i : ℕ) → Numbered K i → Once K
once [] i n = tt
once (x ∷ K) i n = (λ h. let q : x.1 < x.1 = later x K i n x h in omega arith, once K (suc i) (rest x K i n))

-- any order that is by id on what the keys stand for
module _ {B : Type 0} (f : Row → B) (leB : B → B → Bool) where
  agree : (K : List Row) (i : ℕ) → Numbered K i → ((x y : Row) → In x K → In y K → leB (f x) (f y) ≡ leb x.0 y.0) → Agree f le3 leB K
  agree [] i n h = tt
  agree (x ∷ K) i n h = (
    λ y m. h x y (inl refl) (inr m) ∙ key-le x y (later x K i n y m),
    agree K (suc i) (rest x K i n) (λ y z a b. h y z (inr a) (inr b)),
  )

-- ---- the keys of a table with the ids l

module _ (l : List ℕ) (K : List Row) (keyed : Keyed l K) where
  numbered : Numbered K 0
  numbered k h = let e : k ≡ 0 + k = sym (zero-add k) in keyed.row k (omega (arith, keyed.len)) ∙ e

  pub keyed-in : (x : Row) → In x K → (x.1 < length l) × (x.0 ≡ get_or l x.1 0) × (at K x.1 ≡ x)
  keyed-in x h =
      let r = in-at row0 x K h in
      let below : r.0 < length l = omega (arith, r.1, keyed.len) in
      let e : r.0 ≡ x.1 = sym (keyed.row r.0 below) ∙ ap (λ (t : Row). t.1) r.2 in
      let id : x.0 ≡ get_or l r.0 0 = sym (ap (λ (t : Row). t.0) r.2) ∙ keyed.id r.0 below in
      (omega arith, rw e at id, rw e at r.2)

  pub sorted-in : (x : Row) → In x (sorted le3 K) → (x.1 < length l) × (x.0 ≡ get_or l x.1 0) × (at K x.1 ≡ x)
  sorted-in x h = keyed-in x (of-sorted le3 order3 x K h)

  pub sorted-length : length (sorted le3 K) ≡ length l
  sorted-length = length-sorted le3 order3 K ∙ keyed.len

  pub sorted-as : {B : Type 0} (f : Row → B) (leB : B → B → Bool) → ((x y : Row) → In x K → In y K → leB (f x) (f y) ≡ leb x.0 y.0)
      → sorted leB (map f K) ≡ map f (sorted le3 K)
  sorted-as f leB h = sorted-map f le3 leB order3 K (agree f leB K 0 numbered h)

  ids-keyed : map (λ (x : Row). x.0) K ≡ l
  ids-keyed =
      let size : length (map (λ (x : Row). x.0) K) ≡ length l = length-map K (λ (x : Row). x.0) ∙ keyed.len in
      ext_get_or 0 (map (λ (x : Row). x.0) K) l size (λ i h. get_or-map (λ (x : Row). x.0) K i row0 ∙ keyed.id i (omega arith))

  pub sorted-ids : map (λ (x : Row). x.0) (sorted le3 K) ≡ sorted leb l
  sorted-ids = sym (sorted-as (λ (x : Row). x.0) leb (λ x y a b. refl)) ∙ ap (sorted leb) ids-keyed

  pub up : (p q : ℕ) → p < q → q < length (sorted le3 K)
      → ((at (sorted le3 K) p).0 < (at (sorted le3 K) q).0) ⊎ (((at (sorted le3 K) p).0 ≡ (at (sorted le3 K) q).0) × ((at (sorted le3 K) p).1 < (at (sorted le3 K) q).1))
  unfolding Lex
  up p q h k =
      let S : List Row = sorted le3 K in
      let a = sorted-in (at S p) (at_in row0 S p (omega arith)) in
      let b = sorted-in (at S q) (at_in row0 S q k) in
      let n : at S p ≡ at S q → ⊥ = once-at row0 S (nd-sorted le3 order3 K (once K 0 numbered)) p q h k in
      ⊎_elim (λ (e : (at S p).0 < (at S q).0). inl e)
      (λ (e : ((at S p).0 ≡ (at S q).0) × (((at S p).1 < (at S q).1) ⊎ (((at S p).1 ≡ (at S q).1) × ((at S p).2 ≤ (at S q).2)))).
      inr (
        e.0,
        ⊎_elim (λ (f : (at S p).1 < (at S q).1). f)
            (λ (f : ((at S p).1 ≡ (at S q).1) × ((at S p).2 ≤ (at S q).2)). absurd (n (sym a.2 ∙ ap (λ (i : ℕ). at K i) f.0 ∙ b.2))) e.1,
      ))
      (to-lex (at S p) (at S q) (asc-lt le3 order3 row0 S (sorted-asc le3 order3 K) p q h k))
