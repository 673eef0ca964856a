-- Document 01: "Delta: added and removed ids ascending. For each added child, count its parents held before: one makes a split pair
-- (parent, child), several make merge pairs (child, parent). Pairs ascend. Reason: split, merge, removed, unknown, first that applies.
-- Added: handover, the summed width of added Active segments."
-- Assumes nothing.
use Rattle.std.specs.Prelude.{ℕ, ◌+◌, ◌-◌, Bool, true, false, not, cond, ◌||◌, List, [], ◌∷◌, ◌++◌, map, eqb, ltb, leb, length}
use Rattle.lists.specs.Lists.{has}
use Rattle.lists.specs.Sort.{sorted}
use Rattle.lists.specs.Sets.{keep}
use Rattle.answers.specs.declared.DagChangeReason.{DagChangeReason}
use Rattle.answers.specs.declared.DagChangeReason.TheVariants.{Split, Merge, SegmentRemoved, Unknown}
use Rattle.answers.specs.declared.DagDelta.{DagDelta}
use Rattle.rules.specs.Model.{Segment, ids_of, by_id}

abbrev pub Pair : Type 0
Pair = ℕ × ℕ

abbrev pub pair_le : Pair → Pair → Bool
pair_le x y = cond (ltb x.0 y.0) true (cond (ltb y.0 x.0) false (leb x.1 y.1))

-- the segments whose id was not held before, ascending
unfoldable pub added_from : List ℕ → List Segment → List Segment
added_from before [] = []
added_from before (s ∷ ss) = cond (has s.head.id before) (added_from before ss) (s ∷ added_from before ss)

unfoldable pub added_of : List ℕ → List Segment → List Segment
added_of before ss = added_from before (by_id ss)

-- the ids held before that have no row now
unfoldable pub removed_of : List ℕ → List Segment → List ℕ
removed_of before ss = keep (λ (x : ℕ). not (has x (ids_of ss))) before

-- "its parents held before"
abbrev pub known_parents : List ℕ → Segment → List ℕ
known_parents before s = keep (λ (p : ℕ). has p before) s.parents

abbrev pub splits_of : ℕ → List ℕ → List Pair
splits_of child [] = []
splits_of child (p ∷ []) = (p, child) ∷ []
splits_of child (p ∷ q ∷ ps) = []

abbrev pub merges_of : ℕ → List ℕ → List Pair
merges_of child [] = []
merges_of child (p ∷ []) = []
merges_of child (p ∷ q ∷ ps) = map (λ (x : ℕ). (child, x)) (p ∷ q ∷ ps)

-- the pairs of each of the segments
unfoldable pub pairs_from : (ℕ → List ℕ → List Pair) → List ℕ → List Segment → List Pair
pairs_from of before [] = []
pairs_from of before (s ∷ ss) = of s.head.id (known_parents before s) ++ pairs_from of before ss

unfoldable pub split_pairs : List ℕ → List Segment → List Pair
split_pairs before ss = sorted pair_le (pairs_from splits_of before (added_of before ss))

unfoldable pub merge_pairs : List ℕ → List Segment → List Pair
merge_pairs before ss = sorted pair_le (pairs_from merges_of before (added_of before ss))

-- handover, and nothing else knows how it is summed
unfoldable pub widths_active : List Segment → ℕ
widths_active [] = 0
widths_active (s ∷ ss) = cond (eqb s.head.state 1) (s.head.end - s.head.start + 1) 0 + widths_active ss

unfoldable pub handover_of : List ℕ → List Segment → ℕ
handover_of before ss = widths_active (added_of before ss)

-- "Reason: split, merge, removed, unknown, first that applies"
abbrev pub reason_of : ℕ → ℕ → ℕ → DagChangeReason
reason_of splits merges removed =
    cond (ltb 0 splits) Split
    (cond (ltb 0 merges) Merge
    (cond (ltb 0 removed) SegmentRemoved
    Unknown))

-- `is_consume_affecting`: any split, merge or removal
abbrev pub consume_affecting : DagDelta → Bool
consume_affecting d = ltb 0 d.splits || (ltb 0 d.merges || ltb 0 d.removed)

-- the delta by value: lengths of the four lists, reason, handover
unfoldable pub delta_of : ℕ → List ℕ → List Segment → DagDelta
delta_of epoch before ss =
    record {
      epoch = epoch;
      added = length (added_of before ss);
      removed = length (removed_of before ss);
      splits = length (split_pairs before ss);
      merges = length (merge_pairs before ss);
      reason = reason_of (length (split_pairs before ss)) (length (merge_pairs before ss)) (length (removed_of before ss));
      handover = handover_of before ss;
    }

-- the words of pairs, two to a pair
abbrev pub pair_words : List Pair → List ℕ
pair_words [] = []
pair_words (p ∷ ps) = p.0 ∷ p.1 ∷ pair_words ps
