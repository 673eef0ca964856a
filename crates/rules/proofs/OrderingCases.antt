-- Worked cases of the ordering query, one table under one statement: the rule computes, so each is `refl`. The last ones are layouts that the judge
-- refuses: there reading does come to a dead end; and 01's worked example has none. Assumes nothing.
use mathlib.Core.Path.{◌≡◌, refl}
use mathlib.Core.Logic.{◌⊎◌, inl, inr}
use mathlib.Core.Bool.{Bool, true, false, cond}
use mathlib.Core.Option.{none}
use mathlib.Core.List.{List, [], ◌∷◌}
use Prim.Native.Nat.{ℕ, zero, suc, ◌<◌}
use native.Mathlib.Omega.{arith}
use lib.Dec.{eqb}
use lib.ListN.{get_or, take}
use Rattle.lists.specs.Lists.{◌∈◌}
use Rattle.lists.specs.Sets as Sets
use Rattle.lists.proofs.SetLaws.{never, in-cons}
use Rattle.types.specs.declared.records.OrderingMode.{OrderingMode}
use Rattle.types.specs.declared.records.OrderingMode.TheVariants.{Strict, BrokerManaged}
use Rattle.rules.specs.Model.{Segment}
use Rattle.rules.specs.Ancestors as Ancestors
use Rattle.rules.specs.Ordering.{Answer, unknown, unprovable, blocked, eligible, managed, ordering, pruned, remote, incomplete, MayRead}
use Rattle.rules.specs.Reading.{Accepted, NoDeadEnd, begin}
use Rattle.rules.proofs.NoDeadEnd.{no-dead-end}

record Case : Type 0 where
  layout : List Segment
  segment : ℕ
  mode : OrderingMode
  history : List ℕ
  completed : List ℕ
  answer : Answer

abbrev Right : List Case → Type 0
Right [] = Unit {0}
Right (k ∷ ks) = (ordering k.layout k.mode k.segment k.history k.completed ≡ k.answer) × Right ks

abbrev case : List Segment → ℕ → OrderingMode → List ℕ → List ℕ → Answer → Case
case S c mode history completed answer = record { layout = S; segment = c; mode = mode; history = history; completed = completed; answer = answer }

-- what this rule reads of a row; its range and state do not count
abbrev seg : ℕ → ℕ → List ℕ → List ℕ → Segment
seg id created parents children =
    record {
      head = record { id = id; start = 0; end = 0; state = 2; created = created; sealed = none; legacy = none };
      parents = parents;
      children = children;
    }

-- 01's worked example: 1 was split into 2 and 3
abbrev example : List Segment
example = seg 1 0 [] (2 ∷ 3 ∷ []) ∷ seg 2 3 (1 ∷ []) [] ∷ seg 3 3 (1 ∷ []) [] ∷ []

-- a chain 1, 2, 3 and a merge of 2 and 3 to 4: refused by the judge only for its epochs and ranges, which this rule does not read
abbrev merged : List Segment
merged = seg 1 0 [] (2 ∷ 3 ∷ []) ∷ seg 2 3 (1 ∷ []) (4 ∷ []) ∷ seg 3 3 (1 ∷ []) (4 ∷ []) ∷ seg 4 5 (2 ∷ 3 ∷ []) [] ∷ []

-- a root created after epoch 0
abbrev cut : List Segment
cut = seg 5 2 [] (6 ∷ []) ∷ seg 6 4 (5 ∷ []) [] ∷ []

-- not accepted: a parent without a row
abbrev orphan : List Segment
orphan = seg 5 4 (9 ∷ []) [] ∷ []

-- not accepted: a row that is its own parent
abbrev own : List Segment
own = seg 4 1 (4 ∷ []) (4 ∷ []) ∷ []

-- not accepted: two rows, each the other's parent
abbrev ring : List Segment
ring = seg 1 1 (2 ∷ []) (2 ∷ []) ∷ seg 2 1 (1 ∷ []) (1 ∷ []) ∷ []

abbrev cases : List Case
cases =
    -- O 3 S 1 -: B 1 -
    case example 3 Strict (1 ∷ []) [] (blocked (1 ∷ []) [] 1)
    -- O 3 S 1 1: E
    ∷ case example 3 Strict (1 ∷ []) (1 ∷ []) (eligible 1)
    -- O 3 B - -: M 1
    ∷ case example 3 BrokerManaged [] [] (managed (1 ∷ []) 1)
    -- a segment need not be owned itself; order, repeats and other ids change nothing
    ∷ case example 3 Strict (7 ∷ 1 ∷ 3 ∷ 1 ∷ []) (2 ∷ 3 ∷ []) (blocked (1 ∷ []) [] 1)
    -- Strict with remotes: 51 listing them
    ∷ case example 3 Strict [] [] (unprovable 3 (1 ∷ []) 1)
    -- 50
    ∷ case example 8 Strict [] [] (unknown 8)
    -- a segment without parents
    ∷ case example 1 Strict [] [] (eligible 0)
    -- each id once: 1 is reached by way of 2 and of 3; four references
    ∷ case merged 4 BrokerManaged (3 ∷ 1 ∷ []) [] (blocked (1 ∷ 3 ∷ []) (2 ∷ []) 4)
    ∷ case merged 4 BrokerManaged (3 ∷ 1 ∷ []) (3 ∷ []) (blocked (1 ∷ []) (2 ∷ []) 4)
    ∷ case merged 4 BrokerManaged (3 ∷ 1 ∷ []) (1 ∷ 3 ∷ []) (managed (2 ∷ []) 4)
    -- pruned roots: 51 in both modes, also of the root itself
    ∷ case cut 6 BrokerManaged (5 ∷ []) (5 ∷ []) (unprovable 6 (5 ∷ []) 1)
    ∷ case cut 5 BrokerManaged [] [] (unprovable 5 (5 ∷ []) 0)
    -- a dead end outside accepted layouts: blocked by 9, and 9 answers 50
    ∷ case orphan 5 Strict (9 ∷ []) [] (blocked (9 ∷ []) [] 1)
    ∷ case orphan 9 Strict (9 ∷ []) [] (unknown 9)
    -- another: blocked by itself
    ∷ case own 4 Strict (4 ∷ []) [] (blocked (4 ∷ []) [] 1)
    -- in a ring both are ancestors of each, each blocked by both
    ∷ case ring 1 Strict (1 ∷ 2 ∷ []) [] (blocked (1 ∷ 2 ∷ []) [] 2)
    ∷ case ring 2 Strict (1 ∷ 2 ∷ []) (1 ∷ []) (blocked (2 ∷ []) [] 2)
    ∷ []

pub ordering-cases : Right cases
unfolding ordering pruned remote incomplete Sets.add Sets.add_all Sets.keep Sets.total Ancestors.parents_of Ancestors.created_of Ancestors.references Ancestors.grow Ancestors.close Ancestors.ancestors Ancestors.family Ancestors.references_read
ordering-cases = (refl, (refl, (refl, (refl, (refl, (refl, (refl, (refl, (refl, (refl, (refl, (refl, (refl, (refl, (refl, (refl, (refl, tt)))))))))))))))))

-- ---- what the judge shuts out: neither table is free of dead ends

only_one : (S : List Segment) (x : ℕ) → (MayRead (ordering S Strict x (x ∷ []) []) → ⊥) → (c : ℕ) → ordering S Strict c (x ∷ []) [] ≡ blocked (x ∷ []) [] 1
    → NoDeadEnd S → ⊥
only_one S x no_read c b free =
    let m = (free Strict c (x ∷ []) [] (x ∷ []) [] 1 b 0 [] begin).next (omega arith) in
    at m.0 (in-cons m.0 x [] m.1) m.3
  where
    at : (m : ℕ) → (m ≡ x) ⊎ (m ∈ []) → MayRead (ordering S Strict m (x ∷ []) []) → ⊥
    at m (inl e) r = no_read (rw e at r)
    at m (inr h) r = never h

pub orphan-dead-end : NoDeadEnd orphan → ⊥
orphan-dead-end = only_one orphan 9 (λ r. rw ordering-cases.1.1.1.1.1.1.1.1.1.1.1.1.1.0 at r) 5 ordering-cases.1.1.1.1.1.1.1.1.1.1.1.1.0

pub own-dead-end : NoDeadEnd own → ⊥
own-dead-end = only_one own 4 (λ r. rw blocks at r) 4 blocks
  where
    blocks : ordering own Strict 4 (4 ∷ []) [] ≡ blocked (4 ∷ []) [] 1
    blocks = ordering-cases.1.1.1.1.1.1.1.1.1.1.1.1.1.1.0

-- ---- 01's worked example is accepted in the sense of demand 3

example-accepted : Accepted example
unfolding Ancestors.parents_of
example-accepted = record {
  present = λ c p h. row p (eqb 1 c) (eqb 2 c) (eqb 3 c) h;
  order = 1 ∷ 2 ∷ 3 ∷ [];
  all = λ x h. h;
  before = earlier;
}
  where
    first : (p : ℕ) → p ∈ (1 ∷ []) → p ∈ (1 ∷ 2 ∷ 3 ∷ [])
    first p h = go (in-cons p 1 [] h)
      where
        go : (p ≡ 1) ⊎ (p ∈ []) → p ∈ (1 ∷ 2 ∷ 3 ∷ [])
        go (inl e) = rw e refl
        go (inr k) = never k

    row : (p : ℕ) (a b d : Bool) → p ∈ cond a [] (cond b (1 ∷ []) (cond d (1 ∷ []) [])) → p ∈ (1 ∷ 2 ∷ 3 ∷ [])
    row p true b d h = never h
    row p false true d h = first p h
    row p false false true h = first p h
    row p false false false h = never h

    earlier : (j : ℕ) → j < 3 → (p : ℕ) → p ∈ Ancestors.parents_of example (get_or (1 ∷ 2 ∷ 3 ∷ []) j 0) → p ∈ take j (1 ∷ 2 ∷ 3 ∷ [])
    earlier zero l p h = never h
    earlier (suc zero) l p h = h
    earlier (suc (suc zero)) l p h = go (in-cons p 1 [] h)
      where
        go : (p ≡ 1) ⊎ (p ∈ []) → p ∈ (1 ∷ 2 ∷ [])
        go (inl e) = rw e refl
        go (inr k) = never k
    earlier (suc (suc (suc j))) l p h = absurd (omega arith)

pub example-no-dead-end : NoDeadEnd example
example-no-dead-end = no-dead-end example example-accepted
