-- What the flags of an index say of its table.
--     rows-twins, places-twins     they flag the twins of the table
--     rows-once, places-once       where none is 1, no id stands twice and the ids of the index ascend strictly
-- By the flag of the later of two rows with one id. Assumes nothing.
use Prim.Native.Nat.{ℕ, ◌*◌, ◌<◌}
use native.Mathlib.Omega.{arith}
use mathlib.Core.Path.{◌≡◌, refl, sym, ◌∙◌}
use mathlib.Core.List.{List}
use lib.ListN.{length, get_or, take}
use lib.Seq.{get_or-take, length-take-le}
use Rattle.lists.specs.Lists.{◌∈◌}
use Rattle.lists.proofs.HasAt.{has-at}
use Rattle.words.specs.Table.{ids, Ascends}
use Rattle.words.specs.Twins.{Twins, twin, NoTwins}
use Rattle.words.proofs.TableLaws.{length_ids, ids_at}
use Rattle.sorts.specs.Rows.{rows}
use Rattle.rules.specs.Tables.{row_width, place_width}
use Rattle.indexes.specs.Index.{segment_keys, placement_keys, segment_index, placement_index}
use Rattle.indexes.specs.Marks.{Tells}
use Rattle.indexes.proofs.Keys.{rows-keyed, places-keyed}
use Rattle.indexes.proofs.Once.{rows-ascend, places-ascend}

-- no flag of the first n is 1
abbrev pub Unmarked : List ℕ → ℕ → Type 0
Unmarked ys n = (i : ℕ) → i < n → get_or ys i 0 ≡ 1 → ⊥

pub none-twin : (table : List ℕ) (width n : ℕ) (ys : List ℕ) → Twins (ids table width n) ys → Unmarked ys n → NoTwins table width n
none-twin table width n ys t none i j h k e =
    let l : List ℕ = ids table width n in
    let size : length l ≡ n = length_ids table width n in
    let same : get_or (take j l) i 0 ≡ get_or l j 0 =
    get_or-take j l i 0 h ∙ ids_at table width n i (omega arith) ∙ e ∙ sym (ids_at table width n j k) in
    let in-front : get_or l j 0 ∈ take j l = has-at (get_or l j 0) (take j l) i (omega (arith, length-take-le j l (omega arith))) same in
    let one : twin l j ≡ 1 = rw in-front refl in
    none j k (t.each j (omega arith) ∙ one)

module _ (table : List ℕ) (n : ℕ) (ys : List ℕ) where
  pub rows-twins : Tells (segment_index table n) n ys → Twins (ids table row_width n) ys
  unfolding segment_index
  rows-twins t = t.twins (ids table row_width n) (segment_keys table n 0 0) (rows-keyed table n) (length_ids table row_width n) refl

  pub places-twins : Tells (placement_index table n) n ys → Twins (ids table place_width n) ys
  unfolding placement_index
  places-twins t = t.twins (ids table place_width n) (placement_keys table n 0) (places-keyed table n) (length_ids table place_width n) refl

  module _ (index : List ℕ) (size : length index ≡ 3 * n) (none : Unmarked ys n) where
    pub rows-once : rows index ≡ segment_index table n → Tells (rows index) n ys → NoTwins table row_width n × Ascends (ids index 3 n)
    rows-once is t =
        let once : NoTwins table row_width n = none-twin table row_width n ys (rows-twins (rw is at t)) none in
        (once, rows-ascend index table n once size is)

    pub places-once : rows index ≡ placement_index table n → Tells (rows index) n ys → NoTwins table place_width n × Ascends (ids index 3 n)
    places-once is t =
        let once : NoTwins table place_width n = none-twin table place_width n ys (places-twins (rw is at t)) none in
        (once, places-ascend index table n once size is)
