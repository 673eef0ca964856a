-- Demand 3 of the public calls (demand-three), that a reading goes on with any segment that may be read (any_next), and ends (reading-ends).
-- On tables that an acceptance left the call, lent its room, answers by the rule over their segments (answered-is); there the rule book's own
-- demand 3 holds, and answer and lists tell the rule's answer. Assumes nothing.
use Prim.Native.Nat.{ℕ, suc}
use native.Mathlib.Omega.{arith}
use mathlib.Core.Path.{◌≡◌, refl, sym, ap, subst, ◌∙◌}
use mathlib.Core.Bool.{true}
use mathlib.Core.List.{List, ◌∷◌}
use lib.ListN.{length, take, drop}
use lib.Seq.{take_at}
use Rattle.lists.specs.Lists.{front, ◌∈◌, ◌∉◌}
use Rattle.answers.specs.Verdict as E
use Rattle.types.specs.declared.records.OrderingMode.{OrderingMode}
use Rattle.rules.specs.Model.{Segment}
use Rattle.rules.specs.Tables.{held_segments}
use Rattle.rules.specs.Ordering as Rule
use Rattle.rules.specs.Ordering.{Answer, unknown, unprovable, blocked, eligible, managed, ordering, told_of, first_of, second_of, read_of, Lent, Asked, answered, query_rule, query, ordering_of, first_after, second_after, permits_flow}
use Rattle.rules.specs.Reading as Rules
use Rattle.rules.specs.Reading.{uncompleted}
use Rattle.rules.proofs.NoDeadEnd as Theory
use Rattle.rules.proofs.NoDeadEnd.{no-dead-end, named-ascending, only-ancestors-count}
use Rattle.demand.specs.Demand.{HeldTables, Room, asked, MayRead, BlockedBy, named_in, remote_in, count_in, Blocked, Reading, begin, complete, other, Proceeds, Ends, NoDeadEnd, OnlyAncestorsCount, DemandThree}
use Rattle.demand.proofs.Acceptance.{Sound, left-sound}

-- ---- an answer by value tells which answer of the rule it is

may_read : (a : Answer) → permits_flow (told_of a) ≡ true → Rule.MayRead a
may_read (unknown c) e = let z : ◌≡◌ {A = ℕ} 0 1 = cc in absurd (omega arith)
may_read (unprovable c xs n) e = let z : ◌≡◌ {A = ℕ} 0 1 = cc in absurd (omega arith)
may_read (blocked xs rs n) e = let z : ◌≡◌ {A = ℕ} 0 1 = cc in absurd (omega arith)
may_read (eligible n) e = tt
may_read (managed rs n) e = tt

read-may : (a : Answer) → Rule.MayRead a → permits_flow (told_of a) ≡ true
read-may (unknown c) h = absurd h
read-may (unprovable c xs n) h = absurd h
read-may (blocked xs rs n) h = absurd h
read-may (eligible n) h = refl
read-may (managed rs n) h = refl

-- blocked, by k named and m remote
is-blocked : (a : Answer) (k m : ℕ) → told_of a ≡ E.Blocked k m → (a ≡ blocked (first_of a) (second_of a) (read_of a)) × (length (first_of a) ≡ k) × (length (second_of a) ≡ m)
is-blocked (unknown c) k m e = let z : ◌≡◌ {A = ℕ} 0 1 = cc in absurd (omega arith)
is-blocked (unprovable c xs n) k m e = let z : ◌≡◌ {A = ℕ} 0 1 = cc in absurd (omega arith)
is-blocked (blocked xs rs n) k m e = (refl, cc, cc)
is-blocked (eligible n) k m e = let z : ◌≡◌ {A = ℕ} 0 1 = cc in absurd (omega arith)
is-blocked (managed rs n) k m e = let z : ◌≡◌ {A = ℕ} 0 1 = cc in absurd (omega arith)

-- the words that were written at the front of a list
written : (xs l : List ℕ) (k : ℕ) → length xs ≡ k → take k (front xs l) ≡ xs
written xs l k e = take_at xs (drop (length xs) l) k e

module _ (T : HeldTables) (sound : Sound T) where
  abbrev S : List Segment
  S = held_segments T.rows T.edges T.h

  module _ (mode : OrderingMode) (history : List ℕ) where
    -- the call answers by the rule, whatever it is lent, if it has the room
    pub answered-is : (c : ℕ) (completed : List ℕ) (lent : Lent) → Room T lent → asked T mode history c completed lent ≡ answered (ordering S mode c history completed)
    unfolding query query_rule
    answered-is c completed lent room = rw (sound.pass, room) refl

    to-rule : (c : ℕ) (completed : List ℕ) (lent : Lent) → Room T lent → MayRead T mode history c completed lent → Rule.MayRead (ordering S mode c history completed)
    to-rule c completed lent room h = may_read (ordering S mode c history completed) (rw (answered-is c completed lent room) at h)

    from-rule : (c : ℕ) (completed : List ℕ) (lent : Lent) → Room T lent → Rule.MayRead (ordering S mode c history completed) → MayRead T mode history c completed lent
    from-rule c completed lent room h = rw (answered-is c completed lent room) (read-may (ordering S mode c history completed) h)

    from-blocked : (c : ℕ) (completed : List ℕ) (lent : Lent) (named remotes : List ℕ) (n : ℕ) → Room T lent → ordering S mode c history completed ≡ blocked named remotes n
        → Blocked T mode history c completed lent named remotes n
    from-blocked c completed lent named remotes n room e =
        let q : asked T mode history c completed lent ≡ answered (blocked named remotes n) = answered-is c completed lent room ∙ ap answered e in
        record {
          answer = ap (λ (x : Asked). (ordering_of x).eligibility) q;
          count = ap (λ (x : Asked). (ordering_of x).read) q;
          first = ap (λ (x : Asked). first_after x lent.first) q;
          second = ap (λ (x : Asked). second_after x lent.second) q;
        }

    -- a blocked answer, as the rule's, of the ids that the lists name
    to-blocked : (c : ℕ) (completed : List ℕ) (lent : Lent) (k m : ℕ) → Room T lent → BlockedBy T mode history c completed lent k m
        → (ordering S mode c history completed ≡ blocked (named_in T mode history c completed lent k) (remote_in T mode history c completed lent m) (count_in T mode history c completed lent))
        × (length (named_in T mode history c completed lent k) ≡ k)
    to-blocked c completed lent k m room told =
        let a : Answer = ordering S mode c history completed in
        let q : asked T mode history c completed lent ≡ answered a = answered-is c completed lent room in
        let b = is-blocked a k m (rw q at told) in
        let named : named_in T mode history c completed lent k ≡ first_of a = ap (λ (x : Asked). take k (first_after x lent.first)) q ∙ written (first_of a) lent.first k b.1 in
        let remotes : remote_in T mode history c completed lent m ≡ second_of a = ap (λ (x : Asked). take m (second_after x lent.second)) q ∙ written (second_of a) lent.second m b.2 in
        let count : count_in T mode history c completed lent ≡ read_of a = ap (λ (x : Asked). (ordering_of x).read) q in
        (b.0 ∙ (λ i. blocked (sym named i) (sym remotes i) (sym count i)), ap length named ∙ b.1)

    -- a reading by the call is one by the rule, and the other way round
    reading-rule : {named d : List ℕ} {j : ℕ} {e : List ℕ} → Reading T mode history named d j e → Rules.Reading S mode history named d j e
    reading-rule begin = Rules.begin
    reading-rule (complete {e = e} m lent r i k room u g q o) = Rules.complete m (reading-rule r) i k (to-rule m e lent room u) g q o
    reading-rule (other r g o) = Rules.other (reading-rule r) g o

    rule-reading : (lent : Lent) → Room T lent → {named d : List ℕ} {j : ℕ} {e : List ℕ} → Rules.Reading S mode history named d j e → Reading T mode history named d j e
    rule-reading lent room Rules.begin = begin
    rule-reading lent room (Rules.complete {e = e} m r i k u g q o) = complete m lent (rule-reading lent room r) i k room (from-rule m e lent room u) g q o
    rule-reading lent room (Rules.other r g o) = other (rule-reading lent room r) g o

    -- whichever named, uncompleted, readable segment is completed next, the reading goes on with it
    pub any_next : (named d e : List ℕ) (j m : ℕ) (lent : Lent) → Room T lent → Reading T mode history named d j e → m ∈ named → m ∉ e → MayRead T mode history m e lent
        → Reading T mode history named d (suc j) (m ∷ e)
    any_next named d e j m lent room r i k u = rule-reading lent room (Theory.any_next S mode history named d e j m (reading-rule r) i k (to-rule m e lent room u))

    module _ (c : ℕ) (d named remotes : List ℕ) (n k : ℕ) (b : ordering S mode c history d ≡ blocked named remotes n) (many : length named ≡ k) where
      proceeds : (j : ℕ) (e : List ℕ) → Reading T mode history named d j e → Proceeds T mode history c named remotes n k j e
      proceeds j e r =
          let p = no-dead-end S sound.accepted mode c history d named remotes n b j e (reading-rule r) in
          record {
            left = p.left ∙ many;
            next = λ h. let m = p.next (omega arith) in (m.0, m.1, m.2, λ lent room. from-rule m.0 e lent room m.3);
            stays = λ h lent room. from-blocked c e lent (uncompleted named e) remotes n room (p.stays (omega arith));
            reads = λ h lent room. from-rule c e lent room (p.reads (h ∙ sym many));
          }

      ends : Ends T mode history c d named remotes n k
      ends = record { many = many; ascends = named-ascending S mode c history d named remotes n b; proceeds = proceeds }

  -- no reading order comes to a dead end
  pub never_stuck : NoDeadEnd T
  never_stuck mode history c d lent room k m told =
      let b = to-blocked mode history c d lent k m room told in
      ends mode history c d (named_in T mode history c d lent k) (remote_in T mode history c d lent m) (count_in T mode history c d lent) k b.0 b.1

  -- and there is one that completes all
  pub reading-ends : (mode : OrderingMode) (history : List ℕ) (c : ℕ) (d : List ℕ) (lent : Lent) → Room T lent → (k m : ℕ) → BlockedBy T mode history c d lent k m
      → (e : List ℕ) × Reading T mode history (named_in T mode history c d lent k) d k e × MayRead T mode history c e lent
  reading-ends mode history c d lent room k m told =
      let b = to-blocked mode history c d lent k m room told in
      let r = Theory.reading-ends S sound.accepted mode c history d (named_in T mode history c d lent k) (remote_in T mode history c d lent m) (count_in T mode history c d lent) b.0 in
      (r.0, subst (λ (j : ℕ). Reading T mode history (named_in T mode history c d lent k) d j r.0) b.1 (rule-reading mode history lent room r.1), from-rule mode history c r.0 lent room r.2)

  -- ids that are not ancestors change nothing
  pub others-change-nothing : OnlyAncestorsCount T
  others-change-nothing mode c history history' completed completed' h k lent lent' room room' =
      let same : asked T mode history c completed lent ≡ asked T mode history' c completed' lent' =
      answered-is mode history c completed lent room
      ∙ ap answered (only-ancestors-count S mode c history history' completed completed' h k)
      ∙ sym (answered-is mode history' c completed' lent' room') in
      record {
        answer = ap (λ (x : Asked). (ordering_of x).eligibility) same;
        count = ap (λ (x : Asked). (ordering_of x).read) same;
        first = λ l. ap (λ (x : Asked). first_after x l) same;
        second = λ l. ap (λ (x : Asked). second_after x l) same;
      }

-- DEMAND 3, whole
pub demand-three : DemandThree
demand-three T left = let sound = left-sound T left in (never_stuck T sound, others-change-nothing T sound)
