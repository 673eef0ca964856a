-- Demand 3: no reading order comes to a dead end. A segment's ancestors stand before it in the accepted order, so of those that it waits for the
-- first one in that order waits for none; and each completion takes exactly one id from what is left. Assumes nothing.
use mathlib.Core.Path.{◌≡◌, refl, sym, ap, ◌∙◌}
use mathlib.Core.Bool.{Bool, true, false, not, ◌&&◌}
use mathlib.Core.Logic.{◌⊎◌, inl, inr}
use mathlib.Core.List.{List, [], ◌∷◌}
use Prim.Native.Nat.{ℕ, zero, suc, ◌+◌, ◌<◌}
use native.Mathlib.Decide.{dec_lt}
use native.Mathlib.Omega.{arith}
use borrow.Author.Tests.{not-true}
use lib.ListN.{length, get_or}
use Rattle.lists.specs.Lists.{has, ◌∈◌, ◌∉◌}
use Rattle.lists.specs.Sets.{Ascending, keep}
use Rattle.lists.proofs.SortLaws.{true-or-false}
use Rattle.lists.proofs.SetLaws.{never, here, there, in-cons, and_both, in-keep, keep-in, keep_same, keep-keep, keep-none, none_kept, keep_all, keep-one-less, asc-keep, Place, take-place, has-place}
use Rattle.types.specs.declared.records.OrderingMode.{OrderingMode}
use Rattle.types.specs.declared.records.OrderingMode.TheVariants.{Strict, BrokerManaged}
use Rattle.rules.specs.Model.{Segment, ids_of}
use Rattle.rules.specs.Ancestors.{Ancestor, parent, further, ancestors, family, references_read}
use Rattle.rules.specs.Ordering.{blocked, pruned_root, pruned, remote, incomplete, barred, settled, ordering, MayRead}
use Rattle.rules.specs.Reading.{Accepted, Grows, Reading, begin, complete, other, uncompleted, NoDeadEnd, OnlyAncestorsCount}
use Rattle.rules.proofs.Ancestry.{somebody, ancestors-ascending, ancestors-sound, ancestors-further, family-further, in-family}
use Rattle.rules.proofs.Answers.{same_answer, Open, open-answer, read-open, blocked-open, settled-blocked, settled-read, blocked-settled}

-- ---- in an accepted layout a set that has a member has one with no ancestor in the set

module _ (S : List Segment) (acc : Accepted S) where
  -- an ancestor stands before, by one place at least
  ancestor-before : {x c : ℕ} → Ancestor S x c → (j : ℕ) → j < length acc.order → get_or acc.order j 0 ≡ c → Place x j acc.order
  ancestor-before {x} {c} (parent k) j h e = take-place x j acc.order (acc.before j h x (rw e k))
  ancestor-before {x} {c} (further {q = q} a k) j h e =
      let r = take-place q j acc.order (acc.before j h q (rw e k)) in
      let s = ancestor-before a r.0 r.2 r.3 in
      (s.0, omega (arith, s.1, r.1), s.2, s.3)

  abbrev First : (ℕ → Bool) → Type 0
  First t = (m : ℕ) × (t m ≡ true) × ((x : ℕ) → Ancestor S x m → t x ≡ false)

  -- places before j hold none of the set; f places are left before one that does
  first-from : (t : ℕ → Bool) (f j : ℕ) → j + f < length acc.order → t (get_or acc.order (j + f) 0) ≡ true
      → ((i : ℕ) → i < j → t (get_or acc.order i 0) ≡ false) → First t
  first-from t zero j l h b = found (omega arith)
    where
      found : j + zero ≡ j → First t
      found e = (get_or acc.order (j + zero) 0, h, λ x a. let r = ancestor-before a (j + zero) l refl in ap t (sym r.3) ∙ b r.0 (omega (arith, r.1)))
  first-from t (suc f) j l h b = go (first-from t f (suc j) (omega arith) (rw next at h)) (true-or-false (t (get_or acc.order j 0)))
    where
      next : j + suc f ≡ suc j + f
      next = omega arith

      more : t (get_or acc.order j 0) ≡ false → (i : ℕ) → i < suc j → t (get_or acc.order i 0) ≡ false
      more k i q = at (dec_lt i j)
        where
          at : Dec (i < j) → t (get_or acc.order i 0) ≡ false
          at (yes r) = b i r
          at (no r) = let e : i ≡ j = omega arith in rw e k

      go : (((i : ℕ) → i < suc j → t (get_or acc.order i 0) ≡ false) → First t) → (t (get_or acc.order j 0) ≡ true) ⊎ (t (get_or acc.order j 0) ≡ false)
          → First t
      go ih (inl k) = (get_or acc.order j 0, k, λ x a. let r = ancestor-before a j (omega arith) refl in ap t (sym r.3) ∙ b r.0 r.1)
      go ih (inr k) = ih (more k)

  pub first_of : (t : ℕ → Bool) (x : ℕ) → x ∈ ids_of S → t x ≡ true → First t
  first_of t x i h =
      let r = has-place x acc.order (acc.all x i) in
      let z : 0 + r.0 ≡ r.0 = omega arith in
      first-from t r.0 0 (omega (arith, r.2)) (rw z (ap t r.3 ∙ h)) (λ k q. absurd (omega arith))

  -- an ancestor has a row
  pub ancestor-row : (x c : ℕ) → x ∈ ancestors S c → x ∈ ids_of S
  ancestor-row x c h = let y = somebody S (ancestors-sound S x c h) in acc.present y.0 x y.1

  module _ (mode : OrderingMode) (c : ℕ) (history : List ℕ) (o : Open S mode c history) where
    -- an ancestor of a segment that is not refused is not refused
    pub ancestor-open : (m : ℕ) → m ∈ ancestors S c → Open S mode m history
    unfolding pruned remote
    ancestor-open m h = record {
      row = ancestor-row m c h;
      unpruned = keep-none (pruned_root S) (family S m) (λ x k. none_kept (pruned_root S) (family S c) o.unpruned x (in-family S x c (family-further S x m c k h)));
      allowed = bar mode o.allowed;
    }
      where
        bar : (md : OrderingMode) → barred md (keep (λ x. not (has x history)) (ancestors S c)) ≡ []
            → barred md (keep (λ x. not (has x history)) (ancestors S m)) ≡ []
        bar Strict e = keep-none _ (ancestors S m) (λ x k. none_kept _ (ancestors S c) e x (ancestors-further S x m c k h))
        bar BrokerManaged e = refl

    -- at least one segment that is named as incomplete may itself be read
    pub readable-exists : (e : List ℕ) → 0 < length (incomplete S c history e)
        → (m : ℕ) × (m ∈ incomplete S c history e) × MayRead (ordering S mode m history e)
    unfolding incomplete
    readable-exists e h = go (keep (λ x. has x history && not (has x e)) (ancestors S c)) refl h
      where
        t : ℕ → Bool
        t x = has x (keep (λ x. has x history && not (has x e)) (ancestors S c))

        -- nothing that the first of them waits for is incomplete
        idle : (f : First t) → incomplete S f.0 history e ≡ []
        idle f = keep-none _ (ancestors S f.0) (λ x k. at x k (true-or-false (has x history && not (has x e))))
          where
            at : (x : ℕ) → x ∈ ancestors S f.0 → ((has x history && not (has x e)) ≡ true) ⊎ ((has x history && not (has x e)) ≡ false)
                → (has x history && not (has x e)) ≡ false
            at x k (inl q) =
                let m : f.0 ∈ ancestors S c = (in-keep _ f.0 (ancestors S c) f.1).0 in
                never (sym (f.2 x (ancestors-sound S x f.0 k)) ∙ keep-in _ x (ancestors S c) (ancestors-further S x f.0 c k m) q)
            at x k (inr q) = q

        go : (l : List ℕ) → keep (λ x. has x history && not (has x e)) (ancestors S c) ≡ l → 0 < length l
            → (m : ℕ) × (m ∈ keep (λ x. has x history && not (has x e)) (ancestors S c)) × MayRead (ordering S mode m history e)
        go [] q k = absurd (omega arith)
        go (y ∷ l) q k =
            let i : t y ≡ true = rw q (here y l) in
            let a = in-keep _ y (ancestors S c) i in
            let f = first_of t y (ancestor-row y c a.0) i in
            let b = in-keep _ f.0 (ancestors S c) f.1 in
            (f.0, f.1, rw (open-answer S mode f.0 history e (ancestor-open f.0 b.0)) (settled-read _ _ _ (idle f)))

-- ---- the completed list grows

module _ (S : List Segment) (mode : OrderingMode) (c : ℕ) (history d named remotes : List ℕ) (n : ℕ) (b : ordering S mode c history d ≡ blocked named remotes n) where
  was : (incomplete S c history d ≡ named) × (remote S c history ≡ remotes) × (references_read S c ≡ n) × (0 < length named)
  was = blocked-settled _ _ _ _ _ _ (sym (open-answer S mode c history d (blocked-open S mode c history d named remotes n b)) ∙ b)

  -- k segments are named: no id stands twice
  pub named-ascending : Ascending named
  unfolding incomplete
  named-ascending = rw (← was.0) (asc-keep _ (ancestors S c) (ancestors-ascending S c))

  named-open : (x : ℕ) → x ∈ named → not (has x d) ≡ true
  unfolding incomplete
  named-open x h =
      let k : x ∈ incomplete S c history d = rw was.0 h in
      (and_both (has x history) (not (has x d)) (in-keep (λ y. has y history && not (has y d)) x (ancestors S c) k).1).1

  left_is : (e : List ℕ) → Grows d e → incomplete S c history e ≡ uncompleted named e
  unfolding incomplete
  left_is e g = rw (← was.0) (sym (keep-keep _ _ (ancestors S c) ∙ keep_same _ _ (ancestors S c) (λ x h. both (has x history) (has x d) (has x e) (g x))))
    where
      both : (p q r : Bool) → (q ≡ true → r ≡ true) → (p && not q && not r) ≡ (p && not r)
      both true true true k = refl
      both true true false k = never (k refl)
      both true false r k = refl
      both false q r k = refl

  -- whatever the completed list grows to, ours is blocked by the named that it lacks, and by nothing else
  pub grown-answer : (e : List ℕ) → Grows d e → ordering S mode c history e ≡ settled (uncompleted named e) remotes n
  grown-answer e g = open-answer S mode c history e (blocked-open S mode c history d named remotes n b) ∙ rw (left_is e g, was.1, was.2) refl

  reading-grows : {j : ℕ} {e : List ℕ} → Reading S mode history named d j e → Grows d e
  reading-grows begin x h = h
  reading-grows (complete m r i k u g q o) x h = g x (reading-grows r x h)
  reading-grows (other r g o) x h = g x (reading-grows r x h)

  same-has : (e e' : List ℕ) (x : ℕ) → (x ∈ e → x ∈ e') → (x ∈ e' → x ∈ e) → not (has x e') ≡ not (has x e)
  same-has e e' x up down = go (has x e) (has x e') up down
    where
      go : (p q : Bool) → (p ≡ true → q ≡ true) → (q ≡ true → p ≡ true) → not q ≡ not p
      go true true i k = refl
      go true false i k = never (i refl)
      go false true i k = never (k refl)
      go false false i k = refl

  counted : {j : ℕ} {e : List ℕ} → Reading S mode history named d j e → length (uncompleted named e) + j ≡ length named
  counted begin = rw (keep_all (λ x. not (has x d)) named named-open) (omega arith)
  counted (complete {e = e} {e' = e'} m r i k u g q o) =
      let l =
      keep-one-less (λ x. not (has x e)) (λ x. not (has x e')) m named named-ascending i (ap not k) (ap not q)
      (λ x h a. same-has e e' x (g x) (λ y. back x a (o x h y))) in
      omega (arith, counted r)
    where
      back : (x : ℕ) → (x ≡ m → ⊥) → (x ∈ e) ⊎ (x ≡ m) → x ∈ e
      back x a (inl y) = y
      back x a (inr y) = absurd (a y)
  counted (other {e = e} {e' = e'} r g o) =
      let l = keep_same (λ x. not (has x e')) (λ x. not (has x e)) named (λ x h. same-has e e' x (g x) (o x h)) in
      rw l (counted r)

empty : (l : List ℕ) → length l ≡ 0 → l ≡ []
empty [] e = refl
empty (x ∷ l) e = absurd (omega arith)

-- no reading order comes to a dead end
pub no-dead-end : (S : List Segment) → Accepted S → NoDeadEnd S
no-dead-end S acc mode c history d named remotes n b j e r =
    let g = reading-grows S mode c history d named remotes n b r in
    let l = counted S mode c history d named remotes n b r in
    let i = left_is S mode c history d named remotes n b e g in
    let o = blocked-open S mode c history d named remotes n b in
    let a = grown-answer S mode c history d named remotes n b e g in
    record {
      left = l;
      stays = λ h. a ∙ settled-blocked (uncompleted named e) remotes n (omega arith);
      next = λ h. pick i (readable-exists S acc mode c history o e (rw i (omega arith)));
      reads = λ h. rw a (settled-read (uncompleted named e) remotes n (empty (uncompleted named e) (omega arith)));
    }
  where
    pick : incomplete S c history e ≡ uncompleted named e → (m : ℕ) × (m ∈ incomplete S c history e) × MayRead (ordering S mode m history e)
        → (m : ℕ) × (m ∈ named) × (m ∉ e) × MayRead (ordering S mode m history e)
    pick i m = let k = in-keep _ m.0 named (rw i at m.1) in (m.0, k.0, not-true _ k.1, m.2)

-- whichever named, uncompleted, readable segment is completed next, the reading goes on with it
pub any_next : (S : List Segment) (mode : OrderingMode) (history named d e : List ℕ) (j m : ℕ) → Reading S mode history named d j e → m ∈ named → m ∉ e
    → MayRead (ordering S mode m history e) → Reading S mode history named d (suc j) (m ∷ e)
any_next S mode history named d e j m r i k u = complete m r i k u (λ x h. there x m e h) (here m e) (λ x h q. turn (in-cons x m e q))
  where
    turn : {x : ℕ} → (x ≡ m) ⊎ (x ∈ e) → (x ∈ e) ⊎ (x ≡ m)
    turn (inl p) = inr p
    turn (inr p) = inl p

-- so there is a reading that completes all
pub reading-ends : (S : List Segment) → Accepted S → (mode : OrderingMode) (c : ℕ) (history d named remotes : List ℕ) (n : ℕ)
    → ordering S mode c history d ≡ blocked named remotes n
    → (e : List ℕ) × Reading S mode history named d (length named) e × MayRead (ordering S mode c history e)
reading-ends S acc mode c history d named remotes n b = go (length named) 0 d begin (omega arith)
  where
    go : (f j : ℕ) (e : List ℕ) → Reading S mode history named d j e → f + j ≡ length named
        → (e : List ℕ) × Reading S mode history named d (length named) e × MayRead (ordering S mode c history e)
    go zero j e r q =
        let k : j ≡ length named = omega arith in
        (e, rw (← k) r, (no-dead-end S acc mode c history d named remotes n b j e r).reads k)
    go (suc f) j e r q =
        let m = (no-dead-end S acc mode c history d named remotes n b j e r).next (omega arith) in
        go f (suc j) (m.0 ∷ e) (any_next S mode history named d e j m.0 r m.1 m.2 m.3) (omega arith)

-- what may be read stays so
pub read_stays : (S : List Segment) (mode : OrderingMode) (c : ℕ) (history d e : List ℕ) → Grows d e → MayRead (ordering S mode c history d)
    → MayRead (ordering S mode c history e)
unfolding incomplete
read_stays S mode c history d e g h =
    let o = read-open S mode c history d h in
    let s : MayRead (settled (incomplete S c history d) (remote S c history) (references_read S c)) = rw (open-answer S mode c history d o) at h in
    let none : incomplete S c history e ≡ [] =
    keep-none _ (ancestors S c) (λ x k. at (has x history) (has x d) (has x e) (g x) (none_kept _ (ancestors S c) (none_left _ _ _ s) x k)) in
    rw (open-answer S mode c history e o) (settled-read _ _ _ none)
  where
    none_left : (xs rs : List ℕ) (n : ℕ) → MayRead (settled xs rs n) → xs ≡ []
    none_left [] rs n k = refl
    none_left (x ∷ xs) rs n k = absurd k

    at : (p q r : Bool) → (q ≡ true → r ≡ true) → (p && not q) ≡ false → (p && not r) ≡ false
    at true true true k z = refl
    at true true false k z = never (k refl)
    at true false r k z = never (sym z)
    at false q r k z = refl

-- of every layout, accepted or not
pub only-ancestors-count : (S : List Segment) → OnlyAncestorsCount S
only-ancestors-count S mode c history history' completed completed' h d =
    same_answer S c history history' (λ x m. h x (ancestors-sound S x c m)) completed completed' (λ x m. d x (ancestors-sound S x c m)) mode

-- demand 3, whole
pub demand-three : (S : List Segment) → Accepted S → NoDeadEnd S × OnlyAncestorsCount S
demand-three S acc = (no-dead-end S acc, only-ancestors-count S)
