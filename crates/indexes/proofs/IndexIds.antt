-- The ids of an index, as its words have them, are the ids of the table in ascending order.
-- By the sort of the keys, which is a sort of the ids. Assumes nothing.
use Prim.Native.Nat.{ℕ, zero, suc, ◌*◌}
use native.Mathlib.Omega.{arith}
use mathlib.Core.Path.{◌≡◌, refl, ap, ◌∙◌}
use mathlib.Core.List.{List, [], ◌∷◌, map}
use lib.ListN.{length}
use lib.Dec.{leb}
use Rattle.lists.specs.Sort.{Row, sorted}
use Rattle.words.specs.Table.{ids}
use Rattle.sorts.specs.Rows.{rows}
use Rattle.rules.specs.Tables.{row_width, place_width}
use Rattle.indexes.specs.Index.{segment_keys, placement_keys, segment_index, placement_index}
use Rattle.indexes.proofs.Keyed.{sorted-ids}
use Rattle.indexes.proofs.Keys.{rows-keyed, places-keyed}

ids-rows : (index : List ℕ) (n : ℕ) → length index ≡ 3 * n → ids index 3 n ≡ map (λ (x : Row). x.0) (rows index)
ids-rows [] zero h = refl
ids-rows [] (suc n) h = absurd (omega arith)
ids-rows (x ∷ []) n h = absurd (omega arith)
ids-rows (x ∷ y ∷ []) n h = absurd (omega arith)
ids-rows (x ∷ y ∷ z ∷ l) zero h = absurd (omega arith)
ids-rows (x ∷ y ∷ z ∷ l) (suc n) h = ap (λ (t : List ℕ). x ∷ t) (ids-rows l n (omega arith))

module _ (index table : List ℕ) (n : ℕ) (size : length index ≡ 3 * n) where
  pub rows-ids : rows index ≡ segment_index table n → ids index 3 n ≡ sorted leb (ids table row_width n)
  unfolding segment_index
  rows-ids is =
      ids-rows index n size ∙ ap (map (λ (x : Row). x.0)) is ∙ sorted-ids (ids table row_width n) (segment_keys table n 0 0) (rows-keyed table n)

  pub places-ids : rows index ≡ placement_index table n → ids index 3 n ≡ sorted leb (ids table place_width n)
  unfolding placement_index
  places-ids is =
      ids-rows index n size ∙ ap (map (λ (x : Row). x.0)) is ∙ sorted-ids (ids table place_width n) (placement_keys table n 0) (places-keyed table n)
