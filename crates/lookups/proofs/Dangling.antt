-- 23 through the two indexes: what a search says of `has`, the loop over the placements, and that the indexes say what the rule says.
-- By the ids of an index, which are the ids of its table in ascending order. Assumes nothing.
use Prim.Native.Nat.{ℕ, ◌+◌, ◌*◌, ◌≤◌, ◌<◌}
use native.Mathlib.Numerals.{add-one}
use native.Mathlib.Omega.{arith}
use mathlib.Core.Bool.{Bool, true, false, not}
use mathlib.Core.Path.{◌≡◌, refl, sym, ap, ◌∙◌}
use mathlib.Core.List.{List, [], ◌∷◌}
use lib.ListN.{length, get_or, drop, drop_of_length-le}
use lib.Seq.{drop-cons}
use lib.Dec.{leb}
use Rattle.std.specs.Prelude.{is_some}
use Rattle.lists.specs.Lists.{has}
use Rattle.lists.specs.Sort.{sorted}
use Rattle.lists.proofs.RowOrder.{no}
use Rattle.lists.proofs.Tests.{has-sorted}
use Rattle.words.specs.Table.{ids, where_is, Found, At, Nothing}
use Rattle.words.proofs.TableLaws.{length_ids, ids_at, hit, has-hit}
use Rattle.answers.specs.Answer.{when, ◌then◌, Judged, Accepted, Refused}
use Rattle.sorts.specs.Rows.{rows}
use Rattle.rules.specs.Model.{ids_of}
use Rattle.rules.specs.Tables.{row_width, segments, placements}
use Rattle.rules.specs.Rows.{dangling_from, dangling_rule, placed_ids}
use Rattle.rules.proofs.TableIds.{segment-ids, placement-ids}
use Rattle.indexes.specs.Index.{segment_index, placement_index}
use Rattle.indexes.proofs.IndexIds.{rows-ids, places-ids}
use Rattle.answers.specs.declared.Refusal.TheVariants.{DanglingPlacement}

-- ---- a search

pub lacks : (x : ℕ) (l : List ℕ) (f : Found) (b : Bool) → f ≡ where_is l x → is_some f ≡ not b → b ≡ not (has x l)
lacks x l f b said e = rw (has-hit l x, ← said) (go f b e)
  where
    go : (f : Found) (b : Bool) → is_some f ≡ not b → b ≡ not (hit f)
    go Nothing true e = refl
    go Nothing false e = no (sym e)
    go (At k) true e = no e
    go (At k) false e = refl

-- ---- 23: the loop

module _ (known l : List ℕ) (i : ℕ) (rest : dangling_from known l ≡ dangling_from known (drop i l)) where
  pub dangling-end : length l ≤ i → Accepted ≡ dangling_from known l
  unfolding dangling_from
  dangling-end h = rw (rest, drop_of_length-le l {i = i} h) refl

  module _ (below : i < length l) (b : Bool) (said : b ≡ not (has (get_or l i 0) known)) where
    pub dangling-hit : b ≡ true → Refused (DanglingPlacement (get_or l i 0)) ≡ dangling_from known l
    unfolding dangling_from
    dangling-hit told = rw (rest, drop-cons l i 0 below, ← said, told) refl

    pub dangling-next : b ≡ false → dangling_from known l ≡ dangling_from known (drop (i + 1) l)
    unfolding dangling_from
    dangling-next told = rw (rest, add-one, drop-cons l i 0 below, ← said, told) refl

-- the same of the ids of a table of three words a row, as code reads them
module _ (known t : List ℕ) (m i : ℕ) (rest : dangling_from known (ids t 3 m) ≡ dangling_from known (drop i (ids t 3 m))) where
  pub dangling-end-ids : m ≤ i → Accepted ≡ dangling_from known (ids t 3 m)
  dangling-end-ids h = dangling-end known (ids t 3 m) i rest (omega (arith, length_ids t 3 m))

  module _ (below : i < m) (b : Bool) (said : b ≡ not (has (get_or t (i * 3) 0) known)) where
    same : b ≡ not (has (get_or (ids t 3 m) i 0) known)
    same = said ∙ ap (λ (x : ℕ). not (has x known)) (sym (ids_at t 3 m i below))

    pub dangling-hit-ids : b ≡ true → (r : Judged) → r ≡ Refused (DanglingPlacement (get_or t (i * 3) 0)) → r ≡ dangling_from known (ids t 3 m)
    dangling-hit-ids told r e =
        e ∙ ap (λ (x : ℕ). Refused (DanglingPlacement x)) (sym (ids_at t 3 m i below)) ∙ dangling-hit known (ids t 3 m) i rest (omega (arith, length_ids t 3 m)) b same told

    pub dangling-next-ids : b ≡ false → dangling_from known (ids t 3 m) ≡ dangling_from known (drop (i + 1) (ids t 3 m))
    dangling-next-ids told = dangling-next known (ids t 3 m) i rest (omega (arith, length_ids t 3 m)) b same told

-- ---- the ids of an index, and those of the table

-- an id is one of the index where it is one of the segments: ids may repeat
pub has-index : (index table edges : List ℕ) (n x : ℕ) → length index ≡ 3 * n → rows index ≡ segment_index table n
    → has x (ids index 3 n) ≡ has x (ids_of (segments table edges n))
has-index index table edges n x size is =
    ap (has x) (rows-ids index table n size is) ∙ has-sorted leb x (ids table row_width n) ∙ ap (has x) (sym (segment-ids row_width table edges n))

dangling-same : (k l : List ℕ) → ((x : ℕ) → has x k ≡ has x l) → (xs : List ℕ) → dangling_from k xs ≡ dangling_from l xs
unfolding dangling_from
dangling-same k l h [] = refl
dangling-same k l h (x ∷ xs) = λ j. (when (not (h x j)) (Refused (DanglingPlacement x)) then dangling-same k l h xs j)

-- 23, from the words of the two indexes to the model
pub dangling-is : (index table edges pindex places : List ℕ) (n m : ℕ) → length index ≡ 3 * n → rows index ≡ segment_index table n
    → length pindex ≡ 3 * m → rows pindex ≡ placement_index places m
    → dangling_from (ids index 3 n) (ids pindex 3 m) ≡ dangling_rule (segments table edges n) (placements places m)
unfolding dangling_rule
dangling-is index table edges pindex places n m size is psize pis =
    let l : ids pindex 3 m ≡ placed_ids (placements places m) = places-ids pindex places m psize pis ∙ ap (sorted leb) (sym (placement-ids places m)) in
    ap (dangling_from (ids index 3 n)) l
    ∙ dangling-same (ids index 3 n) (ids_of (segments table edges n)) (λ x. has-index index table edges n x size is) (placed_ids (placements places m))

-- what `judge_dangling` rests on
pub ruleset dangling = (dangling-end-ids, dangling-hit-ids, dangling-next-ids)
