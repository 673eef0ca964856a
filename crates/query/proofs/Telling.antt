-- The answer from the lists, by cases on them: one law for each way out. Where nothing is found nothing is written.
-- Assumes nothing.
use Prim.Native.Nat.{ℕ, ◌+◌, ◌<◌, ◌≤◌}
use native.Mathlib.Omega.{arith}
use mathlib.Core.Path.{◌≡◌, refl, ap, subst, ◌∙◌}
use mathlib.Core.Bool.{Bool, true, false, cond}
use mathlib.Core.List.{List, [], ◌∷◌}
use lib.Dec.{eqb}
use lib.ListN.{length, set, take}
use Rattle.lists.specs.Lists.{front, tick}
use Rattle.lists.specs.Sets.{keep}
use Rattle.lists.proofs.SetLaws.{keep_same}
use Rattle.words.specs.Part.{part}
use Rattle.answers.specs.Verdict.{Verdict}
use Rattle.answers.specs.Verdict as E
use Rattle.types.specs.declared.records.OrderingMode.{OrderingMode}
use Rattle.types.specs.declared.records.OrderingMode.TheVariants.{Strict, BrokerManaged}
use Rattle.owned.specs.Marks.{Marked, root_of, status_of, with_mark}
use Rattle.tabled.proofs.Kept.{part-kept}
use Rattle.owned.proofs.Written.{with-keep}
use Rattle.query.specs.Told.{Told, open_answer, row_answer, remote_in, incomplete_in}

-- a list at the front, and how long it is
abbrev pub Put : List ℕ → List ℕ → List ℕ → ℕ → Type 0
Put xs l l' k = (l' ≡ front xs l) × (k ≡ length xs)

module _ (id : ℕ) (f f₁ s : List ℕ) where
  -- ---- Strict

  module _ (R I : List ℕ) (r : ℕ) (p : Put R f f₁ r) where
    pub strict-barred : 0 < r → Told (open_answer Strict id R I) (E.Unprovable id r) f f₁ s s
    strict-barred h = go R p
      where
        go : (R : List ℕ) → Put R f f₁ r → Told (open_answer Strict id R I) (E.Unprovable id r) f f₁ s s
        go [] p = absurd (omega (arith, p.1))
        go (x ∷ R) p = record { told_is = λ n. ap (λ (k : ℕ). E.Unprovable id k) p.1; first-is = λ n. p.0; second_is = λ n. refl }

    -- the same of what comes after, where no ancestor is remote
    module _ (none : r ≤ 0) (f₂ : List ℕ) (i : ℕ) (q : Put I f₁ f₂ i) where
      pub strict-blocked : 0 < i → Told (open_answer Strict id R I) (E.Blocked i 0) f f₂ s s
      strict-blocked h = go R p I q
        where
          go : (R : List ℕ) → Put R f f₁ r → (I : List ℕ) → Put I f₁ f₂ i → Told (open_answer Strict id R I) (E.Blocked i 0) f f₂ s s
          go (x ∷ R) p I q = absurd (omega (arith, p.1))
          go [] p [] q = absurd (omega (arith, q.1))
          go [] p (y ∷ I) q = record { told_is = λ n. ap (λ (k : ℕ). E.Blocked k 0) q.1; first-is = λ n. q.0 ∙ ap (front (y ∷ I)) p.0; second_is = λ n. refl }

      pub strict-eligible : i ≤ 0 → Told (open_answer Strict id R I) E.Eligible f f₂ s s
      strict-eligible h = go R p I q
        where
          go : (R : List ℕ) → Put R f f₁ r → (I : List ℕ) → Put I f₁ f₂ i → Told (open_answer Strict id R I) E.Eligible f f₂ s s
          go (x ∷ R) p I q = absurd (omega (arith, p.1))
          go [] p (y ∷ I) q = absurd (omega (arith, q.1))
          go [] p [] q = record { told_is = λ n. refl; first-is = λ n. q.0 ∙ p.0; second_is = λ n. refl }

  -- ---- broker-managed

  module _ (R I s₁ : List ℕ) (r i : ℕ) (p : Put R s s₁ r) (q : Put I f f₁ i) where
    pub managed-blocked : 0 < i → Told (open_answer BrokerManaged id R I) (E.Blocked i r) f f₁ s s₁
    managed-blocked h = go I q
      where
        go : (I : List ℕ) → Put I f f₁ i → Told (open_answer BrokerManaged id R I) (E.Blocked i r) f f₁ s s₁
        go [] q = absurd (omega (arith, q.1))
        go (y ∷ I) q = record { told_is = λ n. rw (q.1, p.1) refl; first-is = λ n. q.0; second_is = λ n. p.0 }

    module _ (none : i ≤ 0) where
      pub managed-read : 0 < r → Told (open_answer BrokerManaged id R I) (E.BrokerManaged r) f f₁ s s₁
      managed-read h = go R p I q
        where
          go : (R : List ℕ) → Put R s s₁ r → (I : List ℕ) → Put I f f₁ i → Told (open_answer BrokerManaged id R I) (E.BrokerManaged r) f f₁ s s₁
          go R p (y ∷ I) q = absurd (omega (arith, q.1))
          go [] p [] q = absurd (omega (arith, p.1))
          go (x ∷ R) p [] q = record { told_is = λ n. ap (λ (m : ℕ). E.BrokerManaged m) p.1; first-is = λ n. q.0; second_is = λ n. p.0 }

      pub managed-eligible : r ≤ 0 → Told (open_answer BrokerManaged id R I) E.Eligible f f₁ s s₁
      managed-eligible h = go R p I q
        where
          go : (R : List ℕ) → Put R s s₁ r → (I : List ℕ) → Put I f f₁ i → Told (open_answer BrokerManaged id R I) E.Eligible f f₁ s s₁
          go R p (y ∷ I) q = absurd (omega (arith, q.1))
          go (x ∷ R) p [] q = absurd (omega (arith, p.1))
          go [] p [] q = record { told_is = λ n. refl; first-is = λ n. q.0; second_is = λ n. p.0 }

-- the mode, which a match has told
pub told-mode : (mode m : OrderingMode) (id : ℕ) (R I : List ℕ) (t : Verdict) (f f' s s' : List ℕ) → mode ≡ m → Told (open_answer m id R I) t f f' s s' → Told (open_answer mode id R I) t f f' s s'
told-mode mode m id R I t f f' s s' e h = rw e h

-- ---- pruned roots

module _ (mode : OrderingMode) (id : ℕ) (R I f f₁ s : List ℕ) (r : ℕ) where
  pub told-pruned : (P : List ℕ) → Put P f f₁ r → 0 < r → Told (row_answer mode id P R I) (E.Unprovable id r) f f₁ s s
  told-pruned [] p h = absurd (omega (arith, p.1))
  told-pruned (x ∷ P) p h = record { told_is = λ n. ap (λ (k : ℕ). E.Unprovable id k) p.1; first-is = λ n. p.0; second_is = λ n. refl }

  pub told-open : (P : List ℕ) (t : Verdict) (f₂ s₂ : List ℕ) → Put P f f₁ r → r ≤ 0 → Told (open_answer mode id R I) t f₁ f₂ s s₂ → Told (row_answer mode id P R I) t f f₂ s s₂
  told-open (x ∷ P) t f₂ s₂ p h o = absurd (omega (arith, p.1))
  told-open [] t f₂ s₂ p h o = rw p.0 at o

-- a segment that is itself a pruned root
pub put_one : (b root : Bool) (id : ℕ) (xs f : List ℕ) → b ≡ root → b ≡ true → 0 < length f → Put (cond root (id ∷ []) xs) f (set f 0 id) 1
put_one b root id xs [] e told h = absurd (omega arith)
put_one b root id xs (y ∷ f) e told h = rw (← e, told) (refl, refl)

pub put_rest : (b root : Bool) (id : ℕ) (xs ys f f₁ : List ℕ) (k : ℕ) → b ≡ root → b ≡ false → xs ≡ ys → Put xs f f₁ k → Put (cond root (id ∷ []) ys) f f₁ k
put_rest b root id xs ys f f₁ k e told same p = rw (← e, told, ← same) p

-- ---- ids by their marks

root-mark : (rows : List ℕ) (h : ℕ) (l : List ℕ) → keep (λ x. eqb (tick (root_of rows h x)) 1) l ≡ keep (root_of rows h) l
root-mark rows h l = keep_same _ _ l (λ x i. ticked (root_of rows h x))
  where
    ticked : (t : Bool) → eqb (tick t) 1 ≡ t
    ticked true = refl
    ticked false = refl

pub pruned-listed : (rows : List ℕ) (h b s k : ℕ) (w w' : List ℕ) → Marked (λ x. tick (root_of rows h x)) b s k w w' → b + k ≤ s → s + k ≤ length w → with_mark w' b s 1 k ≡ keep (root_of rows h) (part w b k)
pruned-listed rows h b s k w w' m apart room = with-keep (λ x. tick (root_of rows h x)) b s k w w' m apart room 1 ∙ root-mark rows h (part w b k)

-- the answer past the pruned roots: w₁ is the work area once the pruned roots were listed, w₂ once what was owned is marked
pub told-owned : (mode : OrderingMode) (id : ℕ) (history completed : List ℕ) (b s k : ℕ) (w w₁ w₂ : List ℕ) (t : Verdict) (f f' l l' : List ℕ) → b + k ≤ s → s + k ≤ length w₁ → take s w₁ ≡ take s w
    → Marked (status_of history completed) b s k w₁ w₂ → Told (open_answer mode id (with_mark w₂ b s 0 k) (with_mark w₂ b s 1 k)) t f f' l l'
    → Told (open_answer mode id (remote_in history completed (part w b k)) (incomplete_in history completed (part w b k))) t f f' l l'
told-owned mode id history completed b s k w w₁ w₂ t f f' l l' apart room front m h =
    let p : part w₁ b k ≡ part w b k = part-kept w₁ w s front b k apart in
    let r : with_mark w₂ b s 0 k ≡ remote_in history completed (part w b k) = with-keep (status_of history completed) b s k w₁ w₂ m apart room 0 ∙ ap (remote_in history completed) p in
    let i : with_mark w₂ b s 1 k ≡ incomplete_in history completed (part w b k) = with-keep (status_of history completed) b s k w₁ w₂ m apart room 1 ∙ ap (incomplete_in history completed) p in
    subst (λ (I : List ℕ). Told (open_answer mode id (remote_in history completed (part w b k)) I) t f f' l l') i
    (subst (λ (R : List ℕ). Told (open_answer mode id R (with_mark w₂ b s 1 k)) t f f' l l') r h)
