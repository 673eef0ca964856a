-- An accepted layout stands in the work area: what storing it over the old one asks, and what it leaves. `a` are the held areas, `c` the four lists.
-- Assumes nothing.
use Rattle.std.specs.Prelude.{ℕ, ◌+◌, ◌*◌, ◌≤◌, ◌≡◌, List, length, replicate}
use Rattle.answers.specs.Updates.{UpdateAnswer}
use Rattle.answers.specs.Updates as U
use Rattle.answers.specs.declared.DagDelta.{DagDelta}
use Rattle.rules.specs.Tables.{held_width}
use Rattle.rules.specs.Delta.{widths_active}
use Rattle.rules.specs.Judge.{Areas}
use Rattle.rules.specs.Update.{Changes, judged, held_before, if_accepted}
use Rattle.tabled.specs.Image.{Image, image_segments}
use Rattle.paired.specs.Tables.{Rows}
use Rattle.delta.specs.Changed.{Lists, delta_from, changed_from}
use Rattle.layout.specs.Laid.{Holds, stored_from}
use Rattle.answers.specs.Answer.{Judged, Accepted, Refused}

-- the areas and lists have room for n rows with e edge words, beside h held rows that ascend
pub record Room (n e h : ℕ) (a : Areas) (c : Changes) : Type 0 where
  pub held : Holds n e a
  pub old : Rows a.held h
  pub lists : Lists n e h c

-- where the delta's rows begin in the work area: behind the image and the order
abbrev pub pairs_at : ℕ → ℕ → ℕ
pairs_at n e = n * held_width + e + 5 * n

-- an accepted layout of n rows and e edge words at the front of the work area
pub record Storable (w : List ℕ) (n e : ℕ) : Type 0 where
  pub image : Image w n e
  pub room : pairs_at n e + 3 * e ≤ length w
  pub widths : widths_active (image_segments w n e) ≤ 65536

-- what accepting it leaves
pub record Stored (w : List ℕ) (n e epoch h : ℕ) (a : Areas) (c : Changes) (d : DagDelta) (w' : List ℕ) (a' : Areas) (c' : Changes) : Type 0 where
  pub delta : d ≡ delta_from epoch (held_before h a) (image_segments w n e)
  pub emptied : w' ≡ replicate (length w) 0
  pub areas : a' ≡ stored_from w n e a
  pub lists : c' ≡ changed_from (held_before h a) (image_segments w n e) c

-- ---- the same by what the judge said: a refusal stores nothing

abbrev pub answer_of : Judged → DagDelta → UpdateAnswer
answer_of Accepted d = U.Accepted d
answer_of (Refused r) d = U.Refused r

pub record Finished (j : Judged) (w : List ℕ) (n e epoch h : ℕ) (a : Areas) (c : Changes) (answered : UpdateAnswer) (w' : List ℕ) (a' : Areas) (c' : Changes) : Type 0 where
  pub answer : answered ≡ answer_of j (delta_from epoch (held_before h a) (image_segments w n e))
  pub cleared : w' ≡ replicate (length w) 0
  pub areas : a' ≡ if_accepted (judged j) (stored_from w n e a) a
  pub lists : c' ≡ if_accepted (judged j) (changed_from (held_before h a) (image_segments w n e) c) c
