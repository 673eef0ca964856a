-- Demand 3, over what the public calls promise: "No reading order comes to a dead end. Take an accepted layout, and a segment, mode and
-- ownership history for which the ordering answer is not a refusal. Keep all four, lend each call the room 01 asks, and let the completed list
-- only grow. If the answer is blocked, naming k segments as incomplete (remote ones are not counted), then at least one named and uncompleted
-- segment may itself be read, each time until all k are done. Whichever such segment is completed next, ours stays blocked before the k-th
-- completion and may be read after it. Ids that are not its ancestors, in either list, change nothing in its answer."
-- Assumes nothing.
use Rattle.std.specs.Prelude.{ℕ, suc, ◌+◌, ◌/◌, ◌<◌, ◌≡◌, ◌⊎◌, true, false, List, length, take}
use Rattle.lists.specs.Lists.{has, front, ◌∈◌, ◌∉◌}
use Rattle.lists.specs.Sets.{Ascending}
use Rattle.answers.specs.declared.DagDelta.{DagDelta}
use Rattle.answers.specs.Verdict as E
use Rattle.answers.specs.Updates as U
use Rattle.types.specs.declared.limits.DagLimits.{DagLimits}
use Rattle.types.specs.declared.records.OrderingMode.{OrderingMode}
use Rattle.types.specs.declared.records.Session.{Session}
use Rattle.types.specs.declared.records.Update.{Update}
use Rattle.rules.specs.Tables.{row_width, held_segments}
use Rattle.rules.specs.Room.{no_room_to_order}
use Rattle.rules.specs.Judge.{Tables, Areas, judgement, filled}
use Rattle.rules.specs.Update.{Changes, held_count, held_edge_count, update_after}
use Rattle.rules.specs.Ancestors.{Ancestor}
use Rattle.rules.specs.Ordering.{Lent, Asked, query, ordering_of, first_after, second_after, permits_flow}
use Rattle.rules.specs.Reading.{Grows, uncompleted}
use Rattle.answers.specs.Answer.{Accepted}

-- ---- "Take an accepted layout"

-- held tables as the ordering call is lent them: both areas, the count of rows and the count of edge words
pub record HeldTables : Type 0 where
  pub rows : List ℕ
  pub edges : List ℕ
  pub h : ℕ
  pub g : ℕ

abbrev pub held_in : Areas → ℕ → ℕ → HeldTables
held_in a h g = record { rows = a.held; edges = a.links; h = h; g = g }

-- what a call leaves that accepted a layout
pub data Left : HeldTables → Type 0 where
  -- the judge
  by_judge : (epoch size : ℕ) (limits : DagLimits) (t : Tables) (work : ℕ) (a : Areas) → judgement epoch size limits t work a ≡ Accepted
      → Left (held_in (filled limits t a) (length t.rows / row_width) (length t.edges))
  -- an update, with the counts of the session after it
  by_update : (s : Session) (u : Update) (limits : DagLimits) (t : Tables) (work : List ℕ) (a : Areas) (c : Changes) (d : DagDelta)
      → (update_after s u limits t work a c).answer ≡ U.Accepted d
      → Left (held_in (update_after s u limits t work a c).areas (held_count (update_after s u limits t work a c).session) (held_edge_count (update_after s u limits t work a c).session))

-- "lend each call the room 01 asks": each may be lent other areas
abbrev pub Room : HeldTables → Lent → Type 0
Room T lent = no_room_to_order lent.work (length lent.first) (length lent.second) T.h T.g ≡ false

-- ---- what the calls answer, the held tables, mode and ownership history kept

module _ (T : HeldTables) (mode : OrderingMode) (history : List ℕ) where
  -- segment c asked while that is completed
  abbrev pub asked : ℕ → List ℕ → Lent → Asked
  asked c completed lent = query T.rows T.edges T.h T.g mode c history completed lent

  -- "may itself be read"
  abbrev pub MayRead : ℕ → List ℕ → Lent → Type 0
  MayRead c completed lent = permits_flow (ordering_of (asked c completed lent)).eligibility ≡ true

  -- "blocked, naming k segments as incomplete (remote ones are not counted)"
  abbrev pub BlockedBy : ℕ → List ℕ → Lent → ℕ → ℕ → Type 0
  BlockedBy c completed lent k m = (ordering_of (asked c completed lent)).eligibility ≡ E.Blocked k m

  -- those k, the m remote ones, and the count of references, as the call leaves them
  abbrev pub named_in : ℕ → List ℕ → Lent → ℕ → List ℕ
  named_in c completed lent k = take k (first_after (asked c completed lent) lent.first)

  abbrev pub remote_in : ℕ → List ℕ → Lent → ℕ → List ℕ
  remote_in c completed lent m = take m (second_after (asked c completed lent) lent.second)

  abbrev pub count_in : ℕ → List ℕ → Lent → ℕ
  count_in c completed lent = (ordering_of (asked c completed lent)).read

  -- all of such an answer: by value, and both lists, past the words of which nothing changes
  pub record Blocked (c : ℕ) (completed : List ℕ) (lent : Lent) (named remotes : List ℕ) (n : ℕ) : Type 0 where
    pub answer : BlockedBy c completed lent (length named) (length remotes)
    pub count : count_in c completed lent ≡ n
    pub first : first_after (asked c completed lent) lent.first ≡ front named lent.first
    pub second : second_after (asked c completed lent) lent.second ≡ front remotes lent.second

  -- ---- "let the completed list only grow"

  -- The list was d when these were named. Since then j of them were completed one after the other, each of which the call said may be read; the
  -- list is e now. Ids that are not named may come to it at any time.
  pub data Reading (named d : List ℕ) : ℕ → List ℕ → Type 0 where
    begin : Reading named d 0 d
    complete : {j : ℕ} {e e' : List ℕ} (m : ℕ) (lent : Lent) → Reading named d j e
        → m ∈ named → m ∉ e → Room T lent → MayRead m e lent
        → Grows e e' → m ∈ e' → ((x : ℕ) → x ∈ named → x ∈ e' → (x ∈ e) ⊎ (x ≡ m))
        → Reading named d (suc j) e'
    other : {j : ℕ} {e e' : List ℕ} → Reading named d j e
        → Grows e e' → ((x : ℕ) → x ∈ named → x ∈ e' → x ∈ e)
        → Reading named d j e'

  -- where segment c is after j completions of the k that were named; remotes and n are the rest of its first answer
  pub record Proceeds (c : ℕ) (named remotes : List ℕ) (n k j : ℕ) (e : List ℕ) : Type 0 where
    -- k - j of the named are left
    pub left : length (uncompleted named e) + j ≡ k
    -- "at least one named and uncompleted segment may itself be read, each time until all k are done"
    pub next : j < k → (m : ℕ) × (m ∈ named) × (m ∉ e) × ((lent : Lent) → Room T lent → MayRead m e lent)
    -- "ours stays blocked before the k-th completion", by exactly those that are left
    pub stays : j < k → (lent : Lent) → Room T lent → Blocked c e lent (uncompleted named e) remotes n
    -- "and may be read after it"
    pub reads : j ≡ k → (lent : Lent) → Room T lent → MayRead c e lent

  -- k different segments were named, and any reading of them proceeds
  pub record Ends (c : ℕ) (d named remotes : List ℕ) (n k : ℕ) : Type 0 where
    pub many : length named ≡ k
    pub ascends : Ascending named
    pub proceeds : (j : ℕ) (e : List ℕ) → Reading named d j e → Proceeds c named remotes n k j e

-- DEMAND 3: "No reading order comes to a dead end"
abbrev pub NoDeadEnd : HeldTables → Type 0
NoDeadEnd T =
    (mode : OrderingMode) (history : List ℕ) (c : ℕ) (d : List ℕ) (lent : Lent) → Room T lent
    → (k m : ℕ) → BlockedBy T mode history c d lent k m
    → Ends T mode history c d (named_in T mode history c d lent k) (remote_in T mode history c d lent m) (count_in T mode history c d lent) k

-- ---- "Ids that are not its ancestors, in either list, change nothing in its answer"

-- nothing of two answers differs: by value, the count, and what is written at the front of any list
pub record Same (Q Q' : Asked) : Type 0 where
  pub answer : (ordering_of Q).eligibility ≡ (ordering_of Q').eligibility
  pub count : (ordering_of Q).read ≡ (ordering_of Q').read
  pub first : (l : List ℕ) → first_after Q l ≡ first_after Q' l
  pub second : (l : List ℕ) → second_after Q l ≡ second_after Q' l

abbrev pub AncestorIn : HeldTables → ℕ → ℕ → Type 0
AncestorIn T x c = Ancestor (held_segments T.rows T.edges T.h) x c

-- lists that tell the same of each ancestor: whatever else they hold, in whatever order and however often
abbrev pub OnlyAncestorsCount : HeldTables → Type 0
OnlyAncestorsCount T =
    (mode : OrderingMode) (c : ℕ) (history history' completed completed' : List ℕ)
    → ((x : ℕ) → AncestorIn T x c → has x history ≡ has x history')
    → ((x : ℕ) → AncestorIn T x c → has x completed ≡ has x completed')
    → (lent lent' : Lent) → Room T lent → Room T lent'
    → Same (asked T mode history c completed lent) (asked T mode history' c completed' lent')

abbrev pub DemandThree : Type 0
DemandThree = (T : HeldTables) → Left T → NoDeadEnd T × OnlyAncestorsCount T
