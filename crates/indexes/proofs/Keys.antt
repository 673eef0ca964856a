-- The indexes of the input tables as the abstract lists that they stand for.
--     rows-keyed, places-keyed            the keys of both tables are `Keyed`
--     by_id-index, sorted-placements       an index stands for the list in ascending order: ids may repeat, the sort by id is stable
--     index_in, index_at, place-index-in, place-index-at     what a key of an index says
-- By the keys written out by row number (keys-at, place-keys-at) and the laws of keyed keys. Assumes nothing.
use Prim.Native.Nat.{ℕ, zero, suc, ◌+◌, ◌*◌, ◌<◌}
use native.Mathlib.Nat.{add-zero, zero-add, le_of_suc-le-suc, not-suc-le-zero}
use native.Mathlib.Omega.{arith}
use mathlib.Core.Bool.{Bool}
use mathlib.Core.Path.{◌≡◌, refl, sym, ap, ◌∙◌}
use mathlib.Core.List.{List, ◌∷◌, map}
use lib.ListN.{length, get_or}
use lib.Dec.{leb}
use Rattle.lists.specs.Sort.{Row, le3, sorted}
use Rattle.lists.proofs.SortLaws.{In, at_in}
use Rattle.words.specs.Table.{ids}
use Rattle.words.proofs.TableLaws.{length_ids, ids_at}
use Rattle.sorts.specs.Heap.{row0, at}
use Rattle.rules.specs.Model.{Segment, Placement, id_le, by_id}
use Rattle.rules.specs.Tables.{
  row_width,
  place_width,
  segment_at,
  segments_from,
  segments,
  placement_at,
  placements_from,
  placements,
  parents_at,
  children_at,
  start_of,
}
use Rattle.rules.proofs.Places.{start-next}
use Rattle.indexes.specs.Index.{segment_keys, placement_keys, segment_index, placement_index}
use Rattle.indexes.specs.Marks.{Keyed}
use Rattle.indexes.proofs.Keyed.{keyed-in, sorted-in, sorted-length, sorted-as}

-- ---- any table

-- x is the key of one of n rows
pub record KeyOf (table : List ℕ) (width n : ℕ) (x : Row) : Type 0 where
  pub to : x.1 < n
  pub id : x.0 ≡ get_or table (x.1 * width) 0

module _ (table : List ℕ) (width n : ℕ) (K : List Row) (keyed : Keyed (ids table width n) K) where
  of-keyed : (x : Row) → (x.1 < length (ids table width n)) × (x.0 ≡ get_or (ids table width n) x.1 0) × (at K x.1 ≡ x) → KeyOf table width n x
  of-keyed x r = let h : x.1 < n = omega (arith, r.0, length_ids table width n) in record { to = h; id = r.1 ∙ ids_at table width n x.1 h }

  key_in : (x : Row) → In x K → KeyOf table width n x
  key_in x h = of-keyed x (keyed-in (ids table width n) K keyed x h)

  pub key-sorted : (x : Row) → In x (sorted le3 K) → KeyOf table width n x
  key-sorted x h = of-keyed x (sorted-in (ids table width n) K keyed x h)

  size : length (sorted le3 K) ≡ n
  size = sorted-length (ids table width n) K keyed ∙ length_ids table width n

  -- what the keys stand for, ordered by the ids of their rows
  by_row : {B : Type 0} (f : Row → B) (leB : B → B → Bool) → ((x y : Row) → leB (f x) (f y) ≡ leb (get_or table (x.1 * width) 0) (get_or table (y.1 * width) 0))
      → sorted leB (map f K) ≡ map f (sorted le3 K)
  by_row f leB h =
      sorted-as (ids table width n) K keyed f leB
      (λ x y a b. h x y ∙ ap (λ (i : ℕ). leb i (get_or table (y.1 * width) 0)) (sym (key_in x a).id) ∙ ap (leb x.0) (sym (key_in y b).id))

-- ---- segments

-- what a key of the table stands for
abbrev pub segment_of_key : List ℕ → List ℕ → Row → Segment
segment_of_key rows edges x = segment_at rows edges (x.1 * row_width) x.2

-- its edges begin where they should
pub record Starts (rows : List ℕ) (x : Row) : Type 0 where
  pub at : x.2 ≡ start_of row_width rows x.1

segments-keys : (rows edges : List ℕ) (n i place : ℕ) → segments_from row_width rows edges n i place ≡ map (segment_of_key rows edges) (segment_keys rows n i place)
segments-keys rows edges zero i place = refl
segments-keys rows edges (suc n) i place =
    ap (λ (t : List Segment). segment_at rows edges (i * row_width) place ∷ t)
    (segments-keys rows edges n (i + 1) (place + parents_at rows (i * row_width) + children_at rows (i * row_width)))

-- key k of the rows from i on
keys_from : (rows : List ℕ) (d : Row) (n i k : ℕ) → k < n
    → get_or (segment_keys rows n i (start_of row_width rows i)) k d ≡ (get_or rows ((i + k) * row_width) 0, i + k, start_of row_width rows (i + k))
keys_from rows d zero i k h = absurd (not-suc-le-zero h)
keys_from rows d (suc n) i zero h = rw add-zero refl
keys_from rows d (suc n) i (suc k) h =
    let e : i + 1 + k ≡ i + suc k = omega arith in
    rw (← start-next row_width rows i, ← e) (keys_from rows d n (i + 1) k (le_of_suc-le-suc h))

pub keys-at : (rows : List ℕ) (d : Row) (n k : ℕ) → k < n → get_or (segment_keys rows n 0 0) k d ≡ (get_or rows (k * row_width) 0, k, start_of row_width rows k)
keys-at rows d n k h = rw (zero-add k) at (keys_from rows d n 0 k h)

pub length-keys : (rows : List ℕ) (n i place : ℕ) → length (segment_keys rows n i place) ≡ n
length-keys rows zero i place = refl
length-keys rows (suc n) i place = ap suc (length-keys rows n (i + 1) (place + parents_at rows (i * row_width) + children_at rows (i * row_width)))

module _ (rows : List ℕ) (n : ℕ) where
  pub rows-keyed : Keyed (ids rows row_width n) (segment_keys rows n 0 0)
  rows-keyed = record {
    len = length-keys rows n 0 0 ∙ sym (length_ids rows row_width n);
    id = λ k h.
        let k' : k < n = omega (arith, length_ids rows row_width n) in
        ap (λ (x : Row). x.0) (keys-at rows row0 n k k') ∙ sym (ids_at rows row_width n k k');
    row = λ k h. ap (λ (x : Row). x.1) (keys-at rows row0 n k (omega (arith, length_ids rows row_width n)));
  }

  pub length-index : length (segment_index rows n) ≡ n
  unfolding segment_index
  length-index = size rows row_width n (segment_keys rows n 0 0) rows-keyed

  -- a key of the index is one of the table
  pub index_in : (x : Row) → In x (segment_index rows n) → KeyOf rows row_width n x × Starts rows x
  unfolding segment_index
  index_in x h =
      let k = key-sorted rows row_width n (segment_keys rows n 0 0) rows-keyed x h in
      let r = sorted-in (ids rows row_width n) (segment_keys rows n 0 0) rows-keyed x h in
      (k, record { at = ap (λ (t : Row). t.2) (sym r.2 ∙ keys-at rows row0 n x.1 k.to) })

  -- the key at place p of the index
  pub index_at : (p : ℕ) → p < n → KeyOf rows row_width n (at (segment_index rows n) p) × Starts rows (at (segment_index rows n) p)
  index_at p h = index_in (at (segment_index rows n) p) (at_in row0 (segment_index rows n) p (omega (arith, length-index)))

pub by_id-index : (rows edges : List ℕ) (n : ℕ) → by_id (segments rows edges n) ≡ map (segment_of_key rows edges) (segment_index rows n)
unfolding segment_index
by_id-index rows edges n =
    ap by_id (segments-keys rows edges n 0 0)
    ∙ by_row rows row_width n (segment_keys rows n 0 0) (rows-keyed rows n) (segment_of_key rows edges) id_le (λ x y. refl)

-- ---- placements

abbrev pub placement_of_key : List ℕ → Row → Placement
placement_of_key places x = placement_at places (x.1 * place_width)

abbrev pub place_le : Placement → Placement → Bool
place_le p q = leb p.id q.id

placements-keys : (places : List ℕ) (m i : ℕ) → placements_from places m i ≡ map (placement_of_key places) (placement_keys places m i)
placements-keys places zero i = refl
placements-keys places (suc m) i = ap (λ (t : List Placement). placement_at places (i * place_width) ∷ t) (placements-keys places m (i + 1))

place-keys-from : (places : List ℕ) (d : Row) (m i k : ℕ) → k < m → get_or (placement_keys places m i) k d ≡ (get_or places ((i + k) * place_width) 0, i + k, 0)
place-keys-from places d zero i k h = absurd (not-suc-le-zero h)
place-keys-from places d (suc m) i zero h = rw add-zero refl
place-keys-from places d (suc m) i (suc k) h =
    let e : i + 1 + k ≡ i + suc k = omega arith in
    rw (← e) (place-keys-from places d m (i + 1) k (le_of_suc-le-suc h))

pub place-keys-at : (places : List ℕ) (d : Row) (m k : ℕ) → k < m → get_or (placement_keys places m 0) k d ≡ (get_or places (k * place_width) 0, k, 0)
place-keys-at places d m k h = rw (zero-add k) at (place-keys-from places d m 0 k h)

pub length-place-keys : (places : List ℕ) (m i : ℕ) → length (placement_keys places m i) ≡ m
length-place-keys places zero i = refl
length-place-keys places (suc m) i = ap suc (length-place-keys places m (i + 1))

module _ (places : List ℕ) (m : ℕ) where
  pub places-keyed : Keyed (ids places place_width m) (placement_keys places m 0)
  places-keyed = record {
    len = length-place-keys places m 0 ∙ sym (length_ids places place_width m);
    id = λ k h.
        let k' : k < m = omega (arith, length_ids places place_width m) in
        ap (λ (x : Row). x.0) (place-keys-at places row0 m k k') ∙ sym (ids_at places place_width m k k');
    row = λ k h. ap (λ (x : Row). x.1) (place-keys-at places row0 m k (omega (arith, length_ids places place_width m)));
  }

  pub length-place-index : length (placement_index places m) ≡ m
  unfolding placement_index
  length-place-index = size places place_width m (placement_keys places m 0) places-keyed

  pub sorted-placements : sorted place_le (placements places m) ≡ map (placement_of_key places) (placement_index places m)
  unfolding placement_index
  sorted-placements =
      ap (sorted place_le) (placements-keys places m 0)
      ∙ by_row places place_width m (placement_keys places m 0) places-keyed (placement_of_key places) place_le (λ x y. refl)

  pub place-index-in : (x : Row) → In x (placement_index places m) → KeyOf places place_width m x
  unfolding placement_index
  place-index-in x h = key-sorted places place_width m (placement_keys places m 0) places-keyed x h

  pub place-index-at : (p : ℕ) → p < m → KeyOf places place_width m (at (placement_index places m) p)
  place-index-at p h = place-index-in (at (placement_index places m) p) (at_in row0 (placement_index places m) p (omega (arith, length-place-index)))
