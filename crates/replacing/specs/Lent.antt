-- The lent words of an update past 40, 41, 42 and stale: the tables that come, the held areas, the four lists of the delta, the work area.
-- "Acceptance replaces the held layout." "Refusals change no lent word, .. and the work area is all zero after any call that got past 2."
-- Assumes nothing.
use Rattle.std.specs.Prelude.{ℕ, ◌≡◌, List, length}
use Rattle.answers.specs.Updates.{UpdateAnswer}
use Rattle.types.specs.declared.limits.DagLimits.{DagLimits}
use Rattle.rules.specs.Judge.{Tables, Areas, segments_in, filled, cleared_if}
use Rattle.rules.specs.Update.{Changes, Went, judged, replace_rule, held_before, updated_of, if_accepted, changed, past_update_room}

abbrev pub changes_of : List ℕ → List ℕ → List ℕ → List ℕ → Changes
changes_of added removed splits merges = record { added = added; removed = removed; splits = splits; merges = merges }

-- how the layout was judged, where h rows and g edge words are held
abbrev pub replaced : ℕ → ℕ → ℕ → ℕ → DagLimits → Tables → ℕ → Areas → Changes → Went
replaced h g epoch size limits t work a c = judged (replace_rule h g epoch size limits t work a c)

-- The whole promise: the answer, and every lent word afterwards, from all inputs. Each part is an equation, so two answers that satisfy it are equal.
pub record Replaced (h g epoch size : ℕ) (limits : DagLimits) (t : Tables) (work : List ℕ) (a : Areas) (c : Changes) (answered : UpdateAnswer) (work' : List ℕ) (a' : Areas) (c' : Changes) : Type 0 where
  pub answer : answered ≡ updated_of (replaced h g epoch size limits t (length work) a c) epoch (held_before h a) (segments_in t)
  pub cleared : work' ≡ cleared_if (past_update_room h g t (length work) a c) work
  pub areas : a' ≡ if_accepted (replaced h g epoch size limits t (length work) a c) (filled limits t a) a
  pub lists : c' ≡ if_accepted (replaced h g epoch size limits t (length work) a c) (changed (held_before h a) (segments_in t) c) c
