-- When the ordering query refuses, what it answers otherwise, what its answer does not depend on, and that both its lists ascend and fit; by
-- cases on the lists that the rule looks at. Assumes nothing.
use mathlib.Core.Path.{◌≡◌, refl, sym, ap, ◌∙◌, subst}
use mathlib.Core.Bool.{Bool, true, false, cond, not}
use mathlib.Core.List.{List, [], ◌∷◌}
use Prim.Native.Nat.{ℕ, ◌+◌, ◌<◌, ◌≤◌}
use native.Mathlib.Omega.{arith}
use borrow.Author.Tests.{ne_eqb}
use lib.ListN.{length}
use Rattle.lists.specs.Lists.{has, ◌∈◌, ◌∉◌}
use Rattle.lists.specs.Sets.{Ascending, keep}
use Rattle.lists.proofs.SetLaws.{never, keep_same, keep-shorter, asc-keep}
use Rattle.types.specs.declared.records.OrderingMode.{OrderingMode}
use Rattle.types.specs.declared.records.OrderingMode.TheVariants.{Strict, BrokerManaged}
use Rattle.rules.specs.Model.{Segment, ids_of}
use Rattle.rules.specs.Ancestors.{ancestors, family, references_read, edge_words}
use Rattle.rules.specs.Ordering.{Answer, unknown, unprovable, blocked, eligible, managed, pruned_root, pruned, remote, incomplete, unprovable_for, barred, settled, ordering, MayRead, NotRefused, first_of, second_of, read_of}
use Rattle.rules.proofs.Ancestry.{ancestors-ascending, family-ascending}
use Rattle.rules.proofs.Counting.{count_fits, ancestors-fit, family-fits}

-- ---- the answer depends on the two lists only as far as they tell of each ancestor whether it is in them

module _ (S : List Segment) (c : ℕ) (history history' : List ℕ) (h : (x : ℕ) → x ∈ ancestors S c → has x history ≡ has x history') where
  remote-same : remote S c history ≡ remote S c history'
  unfolding remote
  remote-same = keep_same _ _ (ancestors S c) (λ x m. ap not (h x m))

  module _ (completed completed' : List ℕ) (d : (x : ℕ) → x ∈ ancestors S c → has x completed ≡ has x completed') where
    incomplete-same : incomplete S c history completed ≡ incomplete S c history' completed'
    unfolding incomplete
    incomplete-same = keep_same _ _ (ancestors S c) (λ x m. rw (h x m, d x m) refl)

    -- order, repeats and ids that are not ancestors change nothing
    pub same_answer : (mode : OrderingMode) → ordering S mode c history completed ≡ ordering S mode c history' completed'
    unfolding ordering
    same_answer mode = rw (remote-same, incomplete-same) refl

-- the same, an id at a time
pub has_other : (x y : ℕ) (l : List ℕ) → (y ≡ x → ⊥) → has x (y ∷ l) ≡ has x l
has_other x y l n = rw (ne_eqb y x n) refl

apart : (S : List Segment) (c y : ℕ) → y ∉ ancestors S c → (x : ℕ) → x ∈ ancestors S c → y ≡ x → ⊥
apart S c y n x m e = never (sym n ∙ rw e m)

pub completed-no-ancestor : (S : List Segment) (mode : OrderingMode) (c y : ℕ) (history completed : List ℕ) → y ∉ ancestors S c
    → ordering S mode c history (y ∷ completed) ≡ ordering S mode c history completed
completed-no-ancestor S mode c y history completed n =
    same_answer S c history history (λ x m. refl) (y ∷ completed) completed (λ x m. has_other x y completed (apart S c y n x m)) mode

pub history-no-ancestor : (S : List Segment) (mode : OrderingMode) (c y : ℕ) (history completed : List ℕ) → y ∉ ancestors S c
    → ordering S mode c (y ∷ history) completed ≡ ordering S mode c history completed
history-no-ancestor S mode c y history completed n =
    same_answer S c (y ∷ history) history (λ x m. has_other x y history (apart S c y n x m)) completed completed (λ x m. refl) mode

-- ---- what is no refusal

-- the segment has a row, no pruned root is in its family, and Strict has no remote ancestor: the completed list has no say in it
pub record Open (S : List Segment) (mode : OrderingMode) (c : ℕ) (history : List ℕ) : Type 0 where
  pub row : c ∈ ids_of S
  pub unpruned : pruned S c ≡ []
  pub allowed : barred mode (remote S c history) ≡ []

pub open-answer : (S : List Segment) (mode : OrderingMode) (c : ℕ) (history completed : List ℕ) → Open S mode c history
    → ordering S mode c history completed ≡ settled (incomplete S c history completed) (remote S c history) (references_read S c)
unfolding ordering
open-answer S mode c history completed o = rw (o.row, o.unpruned, o.allowed) refl

-- an answer that is no refusal says so
pub answer-open : (S : List Segment) (mode : OrderingMode) (c : ℕ) (history completed : List ℕ) → NotRefused (ordering S mode c history completed)
    → Open S mode c history
unfolding ordering
answer-open S mode c history completed =
    go (has c (ids_of S)) refl (pruned S c) refl (barred mode (remote S c history)) refl
  where
    n : ℕ
    n = references_read S c

    go : (r : Bool) → has c (ids_of S) ≡ r → (p : List ℕ) → pruned S c ≡ p → (b : List ℕ) → barred mode (remote S c history) ≡ b
        → NotRefused (cond r (unprovable_for c n p (unprovable_for c n b (settled (incomplete S c history completed) (remote S c history) n))) (unknown c))
        → Open S mode c history
    go false i p j b k h = absurd h
    go true i (x ∷ p) j b k h = absurd h
    go true i [] j (x ∷ b) k h = absurd h
    go true i [] j [] k h = record { row = i; unpruned = j; allowed = k }

-- ---- what is settled

pub settled-blocked : (xs rs : List ℕ) (n : ℕ) → 0 < length xs → settled xs rs n ≡ blocked xs rs n
settled-blocked [] rs n h = absurd (omega arith)
settled-blocked (x ∷ xs) rs n h = refl

pub settled-read : (xs rs : List ℕ) (n : ℕ) → xs ≡ [] → MayRead (settled xs rs n)
settled-read xs rs n e = rw e (go rs)
  where
    go : (rs : List ℕ) → MayRead (settled [] rs n)
    go [] = tt
    go (r ∷ rs) = tt

pub blocked-settled : (xs rs ys ss : List ℕ) (n m : ℕ) → settled xs rs n ≡ blocked ys ss m → (xs ≡ ys) × (rs ≡ ss) × (n ≡ m) × (0 < length ys)
blocked-settled (x ∷ xs) rs ys ss n m e =
    let q : (x ∷ xs) ≡ ys = ap first_of e in
    (q, ap second_of e, ap read_of e, rw (← q) (omega arith))
blocked-settled [] [] ys ss n m e = absurd (subst MayRead e tt)
blocked-settled [] (r ∷ rs) ys ss n m e = absurd (subst MayRead e tt)

pub blocked-open : (S : List Segment) (mode : OrderingMode) (c : ℕ) (history completed xs rs : List ℕ) (n : ℕ)
    → ordering S mode c history completed ≡ blocked xs rs n → Open S mode c history
blocked-open S mode c history completed xs rs n e = answer-open S mode c history completed (rw e tt)

pub read-open : (S : List Segment) (mode : OrderingMode) (c : ℕ) (history completed : List ℕ) → MayRead (ordering S mode c history completed)
    → Open S mode c history
read-open S mode c history completed h = answer-open S mode c history completed (go (ordering S mode c history completed) h)
  where
    go : (a : Answer) → MayRead a → NotRefused a
    go (unknown i) k = k
    go (unprovable i xs n) k = k
    go (blocked xs rs n) k = tt
    go (eligible n) k = tt
    go (managed rs n) k = tt

-- ---- the lists ascend, and the count fits, whatever the answer

pub read_fits : (S : List Segment) (mode : OrderingMode) (c : ℕ) (history completed : List ℕ) → read_of (ordering S mode c history completed) ≤ edge_words S
unfolding ordering
read_fits S mode c history completed = go (has c (ids_of S)) (pruned S c) (barred mode (remote S c history)) (incomplete S c history completed) (remote S c history)
  where
    n : ℕ
    n = references_read S c

    last : (xs rs : List ℕ) → read_of (settled xs rs n) ≤ edge_words S
    last (x ∷ xs) rs = count_fits S c
    last [] [] = count_fits S c
    last [] (r ∷ rs) = count_fits S c

    go : (r : Bool) (p b xs rs : List ℕ) → read_of (cond r (unprovable_for c n p (unprovable_for c n b (settled xs rs n))) (unknown c)) ≤ edge_words S
    go false p b xs rs = omega arith
    go true (x ∷ p) b xs rs = count_fits S c
    go true [] (x ∷ b) xs rs = count_fits S c
    go true [] [] xs rs = last xs rs

-- both lists ascend, and there is room for them in "edge words plus one" words
pub record Fine (S : List Segment) (l : List ℕ) : Type 0 where
  pub ascends : Ascending l
  pub room : length l ≤ edge_words S + 1

module _ (S : List Segment) (mode : OrderingMode) (c : ℕ) (history completed : List ℕ) where
  fine-none : Fine S []
  fine-none = record { ascends = tt; room = omega arith }

  fine-pruned : Fine S (pruned S c)
  unfolding pruned
  fine-pruned = record { ascends = asc-keep _ (family S c) (family-ascending S c); room = omega (arith, keep-shorter (pruned_root S) (family S c), family-fits S c) }

  fine-kept : (t : ℕ → Bool) → Fine S (keep t (ancestors S c))
  fine-kept t = record { ascends = asc-keep t (ancestors S c) (ancestors-ascending S c); room = omega (arith, keep-shorter t (ancestors S c), ancestors-fit S c) }

  fine-barred : (md : OrderingMode) → Fine S (barred md (remote S c history))
  unfolding remote
  fine-barred Strict = fine-kept _
  fine-barred BrokerManaged = fine-none

  -- both lists of any answer
  pub lists-fine : Fine S (first_of (ordering S mode c history completed)) × Fine S (second_of (ordering S mode c history completed))
  unfolding ordering incomplete remote
  lists-fine =
      go (has c (ids_of S)) (pruned S c) fine-pruned (barred mode (remote S c history)) (fine-barred mode)
      (incomplete S c history completed) (fine-kept _) (remote S c history) (fine-kept _)
    where
      n : ℕ
      n = references_read S c

      Both : Answer → Type 0
      Both a = Fine S (first_of a) × Fine S (second_of a)

      last : (xs : List ℕ) → Fine S xs → (rs : List ℕ) → Fine S rs → Both (settled xs rs n)
      last (x ∷ xs) p rs q = (p, q)
      last [] p [] q = (p, q)
      last [] p (r ∷ rs) q = (p, q)

      go : (r : Bool) (p : List ℕ) → Fine S p → (b : List ℕ) → Fine S b → (xs : List ℕ) → Fine S xs → (rs : List ℕ) → Fine S rs
          → Both (cond r (unprovable_for c n p (unprovable_for c n b (settled xs rs n))) (unknown c))
      go false p fp b fb xs fx rs fr = (fine-none, fine-none)
      go true (x ∷ p) fp b fb xs fx rs fr = (fp, fine-none)
      go true [] fp (x ∷ b) fb xs fx rs fr = (fb, fine-none)
      go true [] fp [] fb xs fx rs fr = last xs fx rs fr
