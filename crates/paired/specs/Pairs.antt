-- Split pairs and merge pairs by one definition for both kinds. And how pairs stand in the work area, three words to a row, so
-- that they can be sorted there.
-- Assumes nothing.
use Rattle.std.specs.Prelude.{ℕ, ◌+◌, ◌≡◌, Bool, cond, List, [], ◌∷◌, ◌++◌, map, eqb, ltb, length, take}
use Rattle.lists.specs.Lists.{has, front}
use Rattle.lists.specs.Sort.{Row, sorted}
use Rattle.sorts.specs.Rows.{rows}
use Rattle.rules.specs.Model.{Segment}
use Rattle.rules.specs.Delta.{Pair, pair_le, added_from, splits_of, merges_of, pairs_from, pair_words}
use Rattle.rules.specs.Update.{Changes}
use Rattle.paired.specs.declared.pairs.PairKind.{PairKind}
use Rattle.paired.specs.declared.pairs.PairKind.TheVariants.{Split, Merge}
use Rattle.paired.specs.Tables.{known}

-- the pairs of one kind that a child makes with its parents held before
abbrev pub kind_of : PairKind → ℕ → List ℕ → List Pair
kind_of Split = splits_of
kind_of Merge = merges_of

-- as many parents held before as that kind asks for
abbrev pub wanted : PairKind → ℕ → Bool
wanted Split count = eqb count 1
wanted Merge count = ltb 1 count

-- "a split pair (parent, child)", "merge pairs (child, parent)"
abbrev pub pair_of : PairKind → ℕ → ℕ → Pair
pair_of Split child parent = (parent, child)
pair_of Merge child parent = (child, parent)

-- the pairs of one kind of a row, if it was added
unfoldable pub row_pairs : PairKind → List ℕ → ℕ → List ℕ → List Pair
row_pairs kind before child parents = cond (has child before) [] (kind_of kind child (known parents before))

-- the pairs of one kind, in the order of the added rows
unfoldable pub pairs_of : PairKind → List ℕ → List Segment → List Pair
pairs_of kind before ss = pairs_from (kind_of kind) before (added_from before ss)

-- ---- ascending, over segments that ascend by id: `before` are the ids held before, `ss` the segments of the new layout

unfoldable pub splits_from : List ℕ → List Segment → List Pair
splits_from before ss = sorted pair_le (pairs_from splits_of before (added_from before ss))

unfoldable pub merges_from : List ℕ → List Segment → List Pair
merges_from before ss = sorted pair_le (pairs_from merges_of before (added_from before ss))

-- the pairs of one kind, ascending
unfoldable pub ascending_pairs : PairKind → List ℕ → List Segment → List Pair
ascending_pairs kind before ss = sorted pair_le (pairs_of kind before ss)

-- the lists of both, as `write_paired` leaves them
abbrev pub paired_from : List ℕ → List Segment → Changes → Changes
paired_from before ss c =
    record {
      added = c.added;
      removed = c.removed;
      splits = front (pair_words (splits_from before ss)) c.splits;
      merges = front (pair_words (merges_from before ss)) c.merges;
    }

-- ---- in the work area

abbrev pub row_of : Pair → Row
row_of p = (p.0, p.1, 0)

-- w' is w with the pairs ps placed behind the k rows at its front: r rows then
pub record Placed (w w' : List ℕ) (k r : ℕ) (ps : List Pair) : Type 0 where
  pub count : r ≡ k + length ps
  pub size : length w' ≡ length w
  pub front : take r (rows w') ≡ take k (rows w) ++ map row_of ps

-- the first two words of each row
unfoldable pub two_words : List Row → List ℕ
two_words [] = []
two_words (x ∷ l) = x.0 ∷ x.1 ∷ two_words l
