-- Where no id stands twice, an index ascends strictly: what `find_row` requires of it (rows-ascend, places-ascend), and of its keys (index-up).
-- By two places of the index (`up`): the same id at both would be the id of two rows. Assumes nothing.
use Prim.Native.Nat.{ℕ, ◌*◌, ◌<◌}
use native.Mathlib.Omega.{arith}
use mathlib.Core.Path.{◌≡◌, refl, sym, ap, ◌∙◌}
use mathlib.Core.List.{List}
use mathlib.Core.Logic.{⊎_elim}
use lib.ListN.{length, get_or}
use Rattle.lists.specs.Sort.{Row, le3, sorted}
use Rattle.lists.proofs.SortLaws.{at_in}
use Rattle.words.specs.Table.{ids, Ascends}
use Rattle.words.proofs.TableLaws.{length_ids, ids_at}
use Rattle.sorts.specs.Rows.{rows}
use Rattle.sorts.specs.Heap.{row0, at}
use Rattle.sorts.proofs.RowLaws.{rows_at}
use Rattle.rules.specs.Tables.{row_width, place_width}
use Rattle.words.specs.Twins.{NoTwins}
use Rattle.indexes.specs.Index.{segment_keys, placement_keys, segment_index, placement_index}
use Rattle.indexes.specs.Marks.{Keyed}
use Rattle.indexes.proofs.Keyed.{sorted-length, up}
use Rattle.indexes.proofs.Keys.{key-sorted, rows-keyed, places-keyed}

module _ (table : List ℕ) (width n : ℕ) (K : List Row) (keyed : Keyed (ids table width n) K) (once : NoTwins table width n) where
  apart : (p q : ℕ) → p < q → q < length (sorted le3 K) → (at (sorted le3 K) p).0 < (at (sorted le3 K) q).0
  apart p q h k =
      let S : List Row = sorted le3 K in
      ⊎_elim (λ (u : (at S p).0 < (at S q).0). u)
      (λ (u : ((at S p).0 ≡ (at S q).0) × ((at S p).1 < (at S q).1)).
      let a = key-sorted table width n K keyed (at S p) (at_in row0 S p (omega arith)) in
      let b = key-sorted table width n K keyed (at S q) (at_in row0 S q k) in
      absurd (once (at S p).1 (at S q).1 u.1 b.to (sym a.id ∙ u.0 ∙ b.id)))
      (up (ids table width n) K keyed p q h k)

  keyed-ascend : (index : List ℕ) → length index ≡ 3 * n → rows index ≡ sorted le3 K → Ascends (ids index 3 n)
  keyed-ascend index size is p q h k =
      let k' : q < n = omega (arith, length_ids index 3 n) in
      let get : (j : ℕ) → j < n → get_or (ids index 3 n) j 0 ≡ (at (sorted le3 K) j).0 = λ j g.
      let e : 3 * j ≡ j * 3 = omega arith in
      let r : (at (rows index) j).0 ≡ get_or index (j * 3) 0 = ap (λ (t : Row). t.0) (rows_at index j (omega arith)) ∙ rw e refl in
      ids_at index 3 n j g ∙ sym r ∙ ap (λ (t : List Row). (at t j).0) is in
      let l : length (sorted le3 K) ≡ n = sorted-length (ids table width n) K keyed ∙ length_ids table width n in
      omega (arith, get p (omega arith), get q k', apart p q h (omega arith))

pub index-up : (table : List ℕ) (n : ℕ) → NoTwins table row_width n → (p q : ℕ) → p < q → q < n → (at (segment_index table n) p).0 < (at (segment_index table n) q).0
unfolding segment_index
index-up table n t p q h k = apart table row_width n (segment_keys table n 0 0) (rows-keyed table n) t p q h (omega (arith, sorted-length (ids table row_width n) (segment_keys table n 0 0) (rows-keyed table n), length_ids table row_width n))

pub rows-ascend : (index table : List ℕ) (n : ℕ) → NoTwins table row_width n → length index ≡ 3 * n → rows index ≡ segment_index table n → Ascends (ids index 3 n)
unfolding segment_index
rows-ascend index table n t size is = keyed-ascend table row_width n (segment_keys table n 0 0) (rows-keyed table n) t index size is

pub places-ascend : (index places : List ℕ) (m : ℕ) → NoTwins places place_width m → length index ≡ 3 * m → rows index ≡ placement_index places m → Ascends (ids index 3 m)
unfolding placement_index
places-ascend index places m t size is = keyed-ascend places place_width m (placement_keys places m 0) (places-keyed places m) t index size is

-- a table whose ids ascend, as a held table's do, has no twins
pub ascends-once : (table : List ℕ) (width n : ℕ) → Ascends (ids table width n) → NoTwins table width n
ascends-once table width n asc i j h k e =
    let a : get_or (ids table width n) i 0 < get_or (ids table width n) j 0 = asc i j h (omega (arith, length_ids table width n)) in
    omega (arith, ids_at table width n i (omega arith), ids_at table width n j k)
