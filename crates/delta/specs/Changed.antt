-- The delta of `rules` over segments that ascend by id already: `before` are the ids held before, `ss` the segments of the new layout.
-- Assumes nothing.
use Rattle.std.specs.Prelude.{ℕ, ◌*◌, ◌≤◌, not, List, length}
use Rattle.lists.specs.Lists.{has, front}
use Rattle.lists.specs.Sets.{keep}
use Rattle.answers.specs.declared.DagDelta.{DagDelta}
use Rattle.rules.specs.Model.{Segment, ids_of}
use Rattle.rules.specs.Delta.{added_from, pair_words, widths_active, reason_of}
use Rattle.rules.specs.Update.{Changes}
use Rattle.paired.specs.Tables.{lacking}
use Rattle.paired.specs.Pairs.{splits_from, merges_from, paired_from}

unfoldable pub removed_from : List ℕ → List Segment → List ℕ
removed_from before ss = keep (λ (x : ℕ). not (has x (ids_of ss))) before

unfoldable pub delta_from : ℕ → List ℕ → List Segment → DagDelta
delta_from epoch before ss =
    record {
      epoch = epoch;
      added = length (added_from before ss);
      removed = length (removed_from before ss);
      splits = length (splits_from before ss);
      merges = length (merges_from before ss);
      reason = reason_of (length (splits_from before ss)) (length (merges_from before ss)) (length (removed_from before ss));
      handover = widths_active (added_from before ss);
    }

-- the four lists have room, where n rows with e edge words come beside h held rows
pub record Lists (n e h : ℕ) (c : Changes) : Type 0 where
  pub added : n ≤ length c.added
  pub removed : h ≤ length c.removed
  pub splits : 2 * e ≤ length c.splits
  pub merges : 2 * e ≤ length c.merges

-- the lists of ids that came and that went, of the ids before and after
abbrev pub moved_from : List ℕ → List ℕ → Changes → Changes
moved_from before after c =
    record {
      added = front (lacking after before) c.added;
      removed = front (lacking before after) c.removed;
      splits = c.splits;
      merges = c.merges;
    }

-- the four lists as `write_delta` leaves them
abbrev pub changed_from : List ℕ → List Segment → Changes → Changes
changed_from before ss c =
    record {
      added = front (ids_of (added_from before ss)) c.added;
      removed = front (removed_from before ss) c.removed;
      splits = front (pair_words (splits_from before ss)) c.splits;
      merges = front (pair_words (merges_from before ss)) c.merges;
    }
