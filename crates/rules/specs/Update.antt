-- Document 01: "Update: 40; without a layout 41 or 42; beside a layout an error is ignored; an epoch at or below the held one answers
-- "stale" before 1 and changes nothing; then 1 to 35. Acceptance replaces the held layout. An absent resolved name keeps the old one;
-- absent controller URLs clear theirs."
-- Assumes nothing.
use Rattle.std.specs.Prelude.{ℕ, ◌/◌, Bool, true, false, not, cond, ◌&&◌, ◌||◌, List, eqb, leb, length}
use Rattle.lists.specs.Lists.{front}
use Rattle.words.specs.Table.{ids}
use Rattle.answers.specs.declared.Refusal.{Refusal}
use Rattle.answers.specs.Updates.{UpdateAnswer}
use Rattle.answers.specs.Updates as U
use Rattle.answers.specs.Answer.{when, ◌then◌, Judged, Accepted, Refused}
use Rattle.types.specs.declared.limits.DagLimits.{DagLimits}
use Rattle.types.specs.declared.records.Name.{Name}
use Rattle.types.specs.declared.records.Session.{Session}
use Rattle.types.specs.declared.records.Update.{Update}
use Rattle.rules.specs.Model.{Segment, ids_of}
use Rattle.rules.specs.Tables.{row_width, place_width, held_width}
use Rattle.rules.specs.Shape.{bad_layout, bad_held}
use Rattle.rules.specs.Room.{no_room_to_update}
use Rattle.rules.specs.Layout.{layout_rule}
use Rattle.rules.specs.Judge.{Tables, Areas, segments_in, placements_in, filled, cleared_if}
use Rattle.rules.specs.Delta.{added_of, removed_of, split_pairs, merge_pairs, pair_words, delta_of}
use Rattle.answers.specs.declared.Refusal.TheVariants.{Broker, Empty, SessionMismatch, BadTable, NoRoom}

-- "a session that holds none reads its counts and epoch as 0"
abbrev pub held_count : Session → ℕ
held_count s = cond s.held s.rows 0

abbrev pub held_edge_count : Session → ℕ
held_edge_count s = cond s.held s.edges 0

abbrev pub held_epoch : Session → ℕ
held_epoch s = cond s.held s.epoch 0

-- the four lists that an accepted update fills
pub record Changes : Type 0 where
  pub added : List ℕ
  pub removed : List ℕ
  pub splits : List ℕ
  pub merges : List ℕ

-- 41 (signed code, message text or 0), 42 (session)
unfoldable pub body_rule : Update → Judged
body_rule u =
    cond u.layout Accepted
    (cond u.error (Refused (Broker u.code (cond u.message.present u.message.text 0)))
    (Refused (Empty u.session)))

-- 40 (got, expected), then 41 or 42
unfoldable pub address_rule : Session → Update → Judged
address_rule s u =
    when (not (eqb u.session s.id)) (Refused (SessionMismatch u.session s.id)) then
    body_rule u

unfoldable pub is_stale : Session → Update → Bool
is_stale s u = s.held && leb u.epoch s.epoch

-- 1: the incoming tables, and the held tables in `a`: h rows and g edge words of it are held
unfoldable pub bad_tables : ℕ → ℕ → Tables → Areas → Bool
bad_tables h g t a = bad_layout t.rows t.edges t.places || bad_held a.held a.links h g

-- 2
unfoldable pub short_to_update : ℕ → Tables → ℕ → Areas → Changes → Bool
short_to_update h t work a c =
    no_room_to_update work (length a.held) (length a.links) (length a.order) (length c.added) (length c.removed) (length c.splits) (length c.merges) (length t.rows / row_width) (length t.places / place_width) (length t.edges) h

-- 1, 2, 3 to 35: the layout of `epoch` and `size`, judged where h rows and g edge words are held
unfoldable pub replace_rule : ℕ → ℕ → ℕ → ℕ → DagLimits → Tables → ℕ → Areas → Changes → Judged
replace_rule h g epoch size limits t work a c =
    when (bad_tables h g t a) (Refused BadTable) then
    when (short_to_update h t work a c) (Refused NoRoom) then
    layout_rule epoch size limits (segments_in t) (placements_in t)

-- how an update went
pub data Went : Type 0 where
  refused_before : Refusal → Went
  stale : Went
  judged : Judged → Went

abbrev pub went_after : Judged → Bool → Judged → Went
went_after (Refused r) old j = refused_before r
went_after Accepted true j = stale
went_after Accepted false j = judged j

unfoldable pub went : Session → Update → DagLimits → Tables → ℕ → Areas → Changes → Went
went s u limits t work a c = went_after (address_rule s u) (is_stale s u) (replace_rule (held_count s) (held_edge_count s) u.epoch u.size limits t work a c)

-- the ids held before, ascending
abbrev pub held_before : ℕ → Areas → List ℕ
held_before h a = ids a.held held_width h

-- ---- the answer, the session after it, and every lent word

abbrev pub updated_of : Went → ℕ → List ℕ → List Segment → UpdateAnswer
updated_of (refused_before r) epoch before ss = U.Refused r
updated_of stale epoch before ss = U.Stale
updated_of (judged (Refused r)) epoch before ss = U.Refused r
updated_of (judged Accepted) epoch before ss = U.Accepted (delta_of epoch before ss)

-- "An absent resolved name keeps the old one; absent controller URLs clear theirs"
abbrev pub kept_name : Name → Name → Name
kept_name old new = cond new.present new old

abbrev pub cleared_name : Name → Name
cleared_name new = cond new.present new (record { present = false; text = 0 })

abbrev pub session_with : Session → Update → Tables → Session
session_with s u t =
    record {
      id = s.id;
      held = true;
      epoch = u.epoch;
      rows = length t.rows / row_width;
      edges = length t.edges;
      resolved = kept_name s.resolved u.resolved;
      controller = cleared_name u.controller;
      secure = cleared_name u.secure;
    }

-- what stands where an update was accepted, and what where it was not
abbrev pub if_accepted : {A : Type 0} → Went → A → A → A
if_accepted (refused_before r) new old = old
if_accepted stale new old = old
if_accepted (judged (Refused r)) new old = old
if_accepted (judged Accepted) new old = new

abbrev pub session_after : Went → Session → Update → Tables → Session
session_after w s u t = if_accepted w (session_with s u t) s

unfoldable pub changed : List ℕ → List Segment → Changes → Changes
changed before ss c =
    record {
      added = front (ids_of (added_of before ss)) c.added;
      removed = front (removed_of before ss) c.removed;
      splits = front (pair_words (split_pairs before ss)) c.splits;
      merges = front (pair_words (merge_pairs before ss)) c.merges;
    }

-- the call got past 1 and 2
unfoldable pub past_update_room : ℕ → ℕ → Tables → ℕ → Areas → Changes → Bool
past_update_room h g t work a c =
    not (bad_tables h g t a)
    && not (short_to_update h t work a c)

-- 40, 41, 42 and stale stand before 1 and 2, and leave the work area as it was
abbrev pub update_work_after : Went → Bool → List ℕ → List ℕ
update_work_after (refused_before r) past work = work
update_work_after stale past work = work
update_work_after (judged j) past work = cleared_if past work

-- the whole promise of an update, as one record
pub record After : Type 0 where
  pub answer : UpdateAnswer
  pub session : Session
  pub areas : Areas
  pub changes : Changes
  pub work : List ℕ

unfoldable pub update_after : Session → Update → DagLimits → Tables → List ℕ → Areas → Changes → After
update_after s u limits t work a c =
    let w : Went = went s u limits t (length work) a c in
    let before : List ℕ = held_before (held_count s) a in
    let ss : List Segment = segments_in t in
    record {
      answer = updated_of w u.epoch before ss;
      session = session_after w s u t;
      areas = if_accepted w (filled limits t a) a;
      changes = if_accepted w (changed before ss c) c;
      work = update_work_after w (past_update_room (held_count s) (held_edge_count s) t (length work) a c) work;
    }
