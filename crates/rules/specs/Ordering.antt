-- Document 01: the ordering query, `permits_flow`, and parents and children of a segment.
-- Assumes nothing.
use Rattle.std.specs.Prelude.{Bool, true, false, cond, Result, Ok, Err, not, ◌&&◌, List, [], ◌∷◌, ℕ, ltb, length, replicate}
use Rattle.std.proofs.Math.Option.{Option, none, some}
use Rattle.lists.specs.Lists as Lists
use Rattle.lists.specs.Lists.{has, front}
use Rattle.lists.specs.Sets.{keep}
use Rattle.answers.specs.declared.Refusal.{Refusal}
use Rattle.answers.specs.declared.Eligibility.{Eligibility}
use Rattle.answers.specs.declared.Eligibility.TheVariants as C
use Rattle.answers.specs.Verdict.{Verdict}
use Rattle.answers.specs.Verdict as E
use Rattle.answers.specs.declared.Ordering.{Ordering}
use Rattle.answers.specs.Answer.{when, ◌then◌, Judged, Accepted, Refused}
use Rattle.types.specs.declared.records.OrderingMode.{OrderingMode}
use Rattle.types.specs.declared.records.OrderingMode.TheVariants.{Strict, BrokerManaged}
use Rattle.rules.specs.Model.{Segment, ids_of, lookup}
use Rattle.rules.specs.Tables.{held_segments}
use Rattle.rules.specs.Shape.{bad_held}
use Rattle.rules.specs.Room.{no_room_to_order}
use Rattle.rules.specs.Ancestors.{parents_of, created_of, ancestors, family, references_read}
use Rattle.answers.specs.declared.Refusal.TheVariants.{BadTable, NoRoom, UnknownSegment}

-- ---- the rule, over the held segments

-- an answer with its lists; the last number of each is the count of parent references read
pub data Answer : Type 0 where
  unknown : ℕ → Answer
  unprovable : ℕ → List ℕ → ℕ → Answer
  blocked : List ℕ → List ℕ → ℕ → Answer
  eligible : ℕ → Answer
  managed : List ℕ → ℕ → Answer

-- a parentless row created after epoch 0
abbrev pub pruned_root : List Segment → ℕ → Bool
pruned_root S x = has x (ids_of S) && (Lists.none (parents_of S x) && ltb 0 (created_of S x))

-- "among the segment and its ancestors, parentless ones created after epoch 0, ascending"
unfoldable pub pruned : List Segment → ℕ → List ℕ
pruned S c = keep (pruned_root S) (family S c)

-- "Remote means an ancestor not in the history"
unfoldable pub remote : List Segment → ℕ → List ℕ → List ℕ
remote S c history = keep (λ x. not (has x history)) (ancestors S c)

-- "incomplete, in the history and not completed"
unfoldable pub incomplete : List Segment → ℕ → List ℕ → List ℕ → List ℕ
incomplete S c history completed = keep (λ x. has x history && not (has x completed)) (ancestors S c)

-- 51 listing these ids, where there are any; otherwise the answer that comes next
abbrev pub unprovable_for : ℕ → ℕ → List ℕ → Answer → Answer
unprovable_for c n [] next = next
unprovable_for c n (x ∷ xs) next = unprovable c (x ∷ xs) n

-- "Strict with remotes: 51 listing them"
abbrev pub barred : OrderingMode → List ℕ → List ℕ
barred Strict remotes = remotes
barred BrokerManaged remotes = []

-- "Else blocked (incomplete; remote), else eligible, or broker-managed (remote)"
abbrev pub settled : List ℕ → List ℕ → ℕ → Answer
settled (x ∷ xs) remotes n = blocked (x ∷ xs) remotes n
settled [] [] n = eligible n
settled [] (r ∷ rs) n = managed (r ∷ rs) n

unfoldable pub ordering : List Segment → OrderingMode → ℕ → List ℕ → List ℕ → Answer
ordering S mode c history completed =
    let n : ℕ = references_read S c in
    cond (has c (ids_of S))
    (unprovable_for c n (pruned S c)
    (unprovable_for c n (barred mode (remote S c history))
    (settled (incomplete S c history completed) (remote S c history) n)))
    (unknown c)

-- the by-value answer, what is written to the front of each ordering list, and the count
abbrev pub told_of : Answer → Verdict
told_of (unknown c) = E.Refused (UnknownSegment c)
told_of (unprovable c xs n) = E.Unprovable c (length xs)
told_of (blocked xs rs n) = E.Blocked (length xs) (length rs)
told_of (eligible n) = E.Eligible
told_of (managed rs n) = E.BrokerManaged (length rs)

abbrev pub first_of : Answer → List ℕ
first_of (unknown c) = []
first_of (unprovable c xs n) = xs
first_of (blocked xs rs n) = xs
first_of (eligible n) = []
first_of (managed rs n) = []

abbrev pub second_of : Answer → List ℕ
second_of (unknown c) = []
second_of (unprovable c xs n) = []
second_of (blocked xs rs n) = rs
second_of (eligible n) = []
second_of (managed rs n) = rs

abbrev pub read_of : Answer → ℕ
read_of (unknown c) = 0
read_of (unprovable c xs n) = n
read_of (blocked xs rs n) = n
read_of (eligible n) = n
read_of (managed rs n) = n

-- "the last two may be read"
abbrev pub MayRead : Answer → Type 0
MayRead (unknown c) = ⊥
MayRead (unprovable c xs n) = ⊥
MayRead (blocked xs rs n) = ⊥
MayRead (eligible n) = Unit {0}
MayRead (managed rs n) = Unit {0}

abbrev pub NotRefused : Answer → Type 0
NotRefused (unknown c) = ⊥
NotRefused (unprovable c xs n) = ⊥
NotRefused (blocked xs rs n) = Unit {0}
NotRefused (eligible n) = Unit {0}
NotRefused (managed rs n) = Unit {0}

-- ---- the call, over held tables of h rows and g edge words: "Ordering: 1, 2, 50; ..", answer, count, and every lent word at exit

-- what is lent: the length of the work area, and the two ordering lists
pub record Lent : Type 0 where
  pub work : ℕ
  pub first : List ℕ
  pub second : List ℕ

-- 1, 2
unfoldable pub query_rule : List ℕ → List ℕ → ℕ → ℕ → Lent → Judged
query_rule rows edges h g lent =
    when (bad_held rows edges h g) (Refused BadTable) then
    when (no_room_to_order lent.work (length lent.first) (length lent.second) h g) (Refused NoRoom) then
    Accepted

-- an answer of the rule where the tables and the room are good
pub data Asked : Type 0 where
  refused_at : Refusal → Asked
  answered : Answer → Asked

abbrev pub asked_after : Judged → Answer → Asked
asked_after Accepted a = answered a
asked_after (Refused r) a = refused_at r

unfoldable pub query : List ℕ → List ℕ → ℕ → ℕ → OrderingMode → ℕ → List ℕ → List ℕ → Lent → Asked
query rows edges h g mode c history completed lent =
    asked_after (query_rule rows edges h g lent) (ordering (held_segments rows edges h) mode c history completed)

-- the answer by value: "the answer counts parent references read, with 51 too (1, 2, 50 count 0)"
abbrev pub ordering_of : Asked → Ordering
ordering_of (refused_at r) = record { eligibility = E.Refused r; read = 0 }
ordering_of (answered a) = record { eligibility = told_of a; read = read_of a }

-- the two lists and the work area at exit: "lists ascend; words past them stay"
abbrev pub first_after : Asked → List ℕ → List ℕ
first_after (refused_at r) l = l
first_after (answered a) l = front (first_of a) l

abbrev pub second_after : Asked → List ℕ → List ℕ
second_after (refused_at r) l = l
second_after (answered a) l = front (second_of a) l

abbrev pub order_work_after : Asked → List ℕ → List ℕ
order_work_after (refused_at r) work = work
order_work_after (answered a) work = replicate (length work) 0

-- `permits_flow`, whatever a refusal says
abbrev pub permits_flow : {R : Type 0} → Result Eligibility R → Bool
permits_flow (Err r) = false
permits_flow (Ok (C.Unprovable id n)) = false
permits_flow (Ok (C.Blocked n m)) = false
permits_flow (Ok C.Eligible) = true
permits_flow (Ok (C.BrokerManaged m)) = true

-- ---- parents and children: "asked for parents or children the port hands back that stretch of the held table itself, empty where a
-- sister call answers 1, then 50 for an unknown id"

unfoldable pub known_rule : List ℕ → List ℕ → ℕ → ℕ → ℕ → Judged
known_rule rows edges h g id =
    when (bad_held rows edges h g) (Refused BadTable) then
    when (not (has id (ids_of (held_segments rows edges h)))) (Refused (UnknownSegment id)) then
    Accepted

abbrev pub parents_in : Option Segment → List ℕ
parents_in none = []
parents_in (some s) = s.parents

abbrev pub children_in : Option Segment → List ℕ
children_in none = []
children_in (some s) = s.children

abbrev pub where_good : Judged → List ℕ → List ℕ
where_good Accepted l = l
where_good (Refused r) l = []

unfoldable pub parent_stretch : List ℕ → List ℕ → ℕ → ℕ → ℕ → List ℕ
parent_stretch rows edges h g id = where_good (known_rule rows edges h g id) (parents_in (lookup id (held_segments rows edges h)))

unfoldable pub child_stretch : List ℕ → List ℕ → ℕ → ℕ → ℕ → List ℕ
child_stretch rows edges h g id = where_good (known_rule rows edges h g id) (children_in (lookup id (held_segments rows edges h)))
