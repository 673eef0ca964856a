-- What it is to read parents: the rows met stay as they must (`MetOnce`), what is new among them, which marks are 1, and which ids without a
-- row are listed.
-- Assumes nothing.
use Prim.Native.Nat.{ℕ, ◌+◌, ◌<◌, ◌≤◌}
use native.Mathlib.Omega.{arith}
use native.Mathlib.Decide.{ℕ_discrete}
use mathlib.Core.Path.{◌≡◌, refl, sym, ap, ◌∙◌}
use mathlib.Core.Bool.{Bool, true, false, cond, not, ◌&&◌, ◌||◌}
use mathlib.Core.Logic.{◌⊎◌, inl, inr, ⊎_elim}
use mathlib.Core.List.{List, [], ◌∷◌, ◌++◌, append-nil, append_assoc}
use borrow.Author.Tests.{ne_eqb, eqb-true, eqb-false}
use lib.Dec.{eqb}
use lib.ListN.{length, get_or, set, length-set, length-append}
use lib.Seq.{get_or-set_same, get_or-set_other}
use Rattle.lists.specs.Lists.{has, ◌∈◌, ◌∉◌}
use Rattle.lists.proofs.Cases.{lt-or-le}
use Rattle.lists.proofs.SortLaws.{true-or-false}
use Rattle.lists.proofs.SetLaws.{never, here, here_eq, there, in-cons, in_left, has-append}
use Rattle.words.specs.Table.{where_is, Ascends, Found, At, Nothing}
use Rattle.words.proofs.TableLaws.{at-is, nothing_is, hit}
use Rattle.walk.specs.Met.{Met, met, meet_row, meet, meet_all, Single, MetOnce}
use Rattle.walk.proofs.Singles.{both, out, in-snoc, snoc_old, snoc_new, single-snoc, no_more}

-- an id that no row of the table has
abbrev pub rowless : List ℕ → ℕ → Bool
rowless table x = not (hit (where_is table x))

-- ---- tests

or-none : (a b : Bool) → b ≡ false → a ≡ (a || b)
or-none true b e = refl
or-none false b e = sym e

or_some : (a b : Bool) → b ≡ true → true ≡ (a || b)
or_some true b e = refl
or_some false b e = sym e

and-true : (a : Bool) → (a && true) ≡ a
and-true true = refl
and-true false = refl

and-false : (a : Bool) → (a && false) ≡ false
and-false true = refl
and-false false = refl

or-joined : (a b c : Bool) → ((a || (b || false)) || c) ≡ (a || (b || c))
or-joined true b c = refl
or-joined false true c = refl
or-joined false false c = refl

pub and-or : (a b d : Bool) → ((a && d) || (b && d)) ≡ ((a || b) && d)
and-or true b true = refl
and-or true b false = and-false b
and-or false b d = refl

and-joined : (a b c d : Bool) → ((a || ((b || false) && d)) || (c && d)) ≡ (a || ((b || c) && d))
and-joined true b c d = refl
and-joined false true c d = and-or true c d
and-joined false false c d = refl

-- ---- one row

module _ (n : ℕ) (s : Met) (h : MetOnce n s) (r : ℕ) (lt : r < n) where
  -- a row without a mark was not met
  not-met : get_or s.mark r 0 ≡ 0 → r ∉ s.list
  not-met z = out r s.list (λ i. absurd (omega (arith, h.marked r i)))

  below-snoc : (x : ℕ) → x ∈ (s.list ++ (r ∷ [])) → x < n
  below-snoc x i = ⊎_elim (h.below x) (λ (e : x ≡ r). rw e lt) (in-snoc x r s.list i)

  -- there is room for a row that was not met
  pub room : get_or s.mark r 0 ≡ 0 → length s.list < n
  room z = omega (arith, no_more n (s.list ++ (r ∷ [])) (single-snoc r s.list h.single (not-met z)) below-snoc, length-append s.list (r ∷ []))

  -- a row with a mark was met
  was-met : (get_or s.mark r 0 ≡ 0 → ⊥) → r ∈ s.list
  was-met z = ⊎_elim (λ (i : r ∈ s.list). i) (λ (o : r ∉ s.list). absurd (z (h.unmarked r o))) (true-or-false (has r s.list))

  -- row r gets the mark 1, and l has it and the rows met before
  module _ (l b : List ℕ) (once : Single l) (has_r : r ∈ l) (old : (x : ℕ) → x ∈ s.list → x ∈ l) (of : (x : ℕ) → x ∈ l → (x ∈ s.list) ⊎ (x ≡ r)) where
    new : get_or (set s.mark r 1) r 0 ≡ 1
    new = get_or-set_same s.mark r 1 0 (omega (arith, h.size))

    mark : (x : ℕ) → (x ∈ s.list) ⊎ (x ≡ r) → Dec (x ≡ r) → 0 < get_or (set s.mark r 1) x 0
    mark x k (yes e) = rw (e, new) (omega arith)
    mark x (inl k) (no q) = rw (get_or-set_other s.mark r x 1 0 q) (h.marked x k)
    mark x (inr e) (no q) = absurd (q e)

    gone : (x : ℕ) → x ∉ l → Dec (x ≡ r) → get_or (set s.mark r 1) x 0 ≡ 0
    gone x o (yes e) = both r l has_r (rw e at o)
    gone x o (no q) = get_or-set_other s.mark r x 1 0 q ∙ h.unmarked x (out x s.list (λ i. both x l (old x i) o))

    held-mark : MetOnce n (met (set s.mark r 1) l b)
    held-mark =
        record {
          size = length-set s.mark r 1 ∙ h.size;
          single = once;
          below = λ x i. ⊎_elim (h.below x) (λ (e : x ≡ r). rw e lt) (of x i);
          marked = λ x i. mark x (of x i) (ℕ_discrete x r);
          unmarked = λ x o. gone x o (ℕ_discrete x r);
        }

  held_new : get_or s.mark r 0 ≡ 0 → MetOnce n (met (set s.mark r 1) (s.list ++ (r ∷ [])) s.bare)
  held_new z = held-mark (s.list ++ (r ∷ [])) s.bare (single-snoc r s.list h.single (not-met z)) (snoc_new r s.list) (λ x i. snoc_old x r s.list i) (λ x i. in-snoc x r s.list i)

  held-old : (get_or s.mark r 0 ≡ 0 → ⊥) → MetOnce n (met (set s.mark r 1) s.list s.bare)
  held-old z = held-mark s.list s.bare h.single (was-met z) (λ x i. i) (λ x i. inl i)

-- ---- all parents of a row

module _ (n : ℕ) (table : List ℕ) (size : length table ≡ n) (up : Ascends table) where
  -- what ps have done to s: us are the new rows
  pub record MetAll (ps us : List ℕ) (s s' : Met) : Type 0 where
    pub held : MetOnce n s'
    pub longer : s'.list ≡ s.list ++ us
    pub fresh : (x : ℕ) → x ∈ us → (p : ℕ) × (p ∈ ps) × (where_is table p ≡ At x)
    pub here-all : (p r : ℕ) → p ∈ ps → where_is table p ≡ At r → r ∈ s'.list
    pub marks : (x : ℕ) → x < n → eqb (get_or s'.mark x 0) 1 ≡ (eqb (get_or s.mark x 0) 1 || has (get_or table x 0) ps)
    pub bares : (z : ℕ) → has z s'.bare ≡ (has z s.bare || (has z ps && rowless table z))
    pub room_for : length s'.bare ≤ length s.bare + length ps

  -- ---- p alone

  only : (p q : ℕ) → q ∈ (p ∷ []) → q ≡ p
  only p q i = ⊎_elim (λ (z : q ≡ p). z) (λ (z : q ∈ []). never z) (in-cons q p [] i)

  alone : (p z : ℕ) (f : Found) → where_is table p ≡ f → (has z (p ∷ []) && not (hit f)) ≡ (has z (p ∷ []) && rowless table z)
  alone p z f e = go (eqb p z) refl
    where
      go : (t : Bool) → eqb p z ≡ t → ((t || false) && not (hit f)) ≡ ((t || false) && rowless table z)
      go true k = let y : p ≡ z = eqb-true p z k in ap (λ (g : Found). not (hit g)) (sym e ∙ ap (where_is table) y)
      go false k = refl

  not-here : (p x : ℕ) → (get_or table x 0 ≡ p → ⊥) → has (get_or table x 0) (p ∷ []) ≡ false
  not-here p x q = rw (ne_eqb p (get_or table x 0) (λ e. q (sym e))) refl

  -- p has no row
  none-met : (p : ℕ) (s : Met) → where_is table p ≡ Nothing → MetOnce n s → MetAll (p ∷ []) [] s (meet_row Nothing p s)
  none-met p s e h =
      record {
        held = record { size = h.size; single = h.single; below = h.below; marked = h.marked; unmarked = h.unmarked };
        longer = sym (append-nil s.list);
        fresh = λ x i. never i;
        here-all = λ q r i k. absurd (lost q r i k);
        marks = λ x l. or-none (eqb (get_or s.mark x 0) 1) (has (get_or table x 0) (p ∷ [])) (not-here p x (nothing_is table p e x (omega (arith, size))));
        bares = λ z. has-append z s.bare (p ∷ []) ∙ ap (λ (t : Bool). has z s.bare || t) (sym (and-true (has z (p ∷ []))) ∙ alone p z Nothing e);
        room_for = omega (arith, length-append s.bare (p ∷ []));
      }
    where
      lost : (q r : ℕ) → q ∈ (p ∷ []) → where_is table q ≡ At r → ⊥
      lost q r i k = let z : q ≡ p = only p q i in let g : where_is table p ≡ At r = rw z at k in let y : ◌≡◌ {A = ℕ} 0 1 = cc in omega arith

  -- p has row r
  module _ (p r : ℕ) (s : Met) (e : where_is table p ≡ At r) (h : MetOnce n s) where
    lt : r < n
    lt = omega (arith, (at-is table p r e).0, size)

    same : (q t : ℕ) → q ∈ (p ∷ []) → where_is table q ≡ At t → t ≡ r
    same q t i k = let z : q ≡ p = only p q i in let g : where_is table p ≡ At t = rw z at k in cc

    mark-one : (x : ℕ) → x < n → Dec (x ≡ r) → eqb (get_or (set s.mark r 1) x 0) 1 ≡ (eqb (get_or s.mark x 0) 1 || has (get_or table x 0) (p ∷ []))
    mark-one x l (yes z) =
        rw (z, get_or-set_same s.mark r 1 0 (omega (arith, h.size, lt)), (at-is table p r e).1)
        (or_some (eqb (get_or s.mark r 0) 1) (has p (p ∷ [])) (here p []))
    mark-one x l (no q) =
        rw (get_or-set_other s.mark r x 1 0 q)
        (or-none (eqb (get_or s.mark x 0) 1) (has (get_or table x 0) (p ∷ [])) (not-here p x (λ z. apart (z ∙ sym (at-is table p r e).1))))
      where
        apart : get_or table x 0 ≡ get_or table r 0 → ⊥
        apart z =
            ⊎_elim
            (λ (k : x < r). omega (arith, up x r k (at-is table p r e).0, z))
            (λ (k : r ≤ x). let d : r < x = omega (arith, q) in omega (arith, up r x d (omega (arith, size)), z))
            (lt-or-le x r)

    row-met : (us l : List ℕ) → MetOnce n (met (set s.mark r 1) l s.bare) → l ≡ s.list ++ us → ((x : ℕ) → x ∈ us → x ≡ r) → r ∈ l → MetAll (p ∷ []) us s (met (set s.mark r 1) l s.bare)
    row-met us l k longer new has_r =
        record {
          held = k;
          longer = longer;
          fresh = λ x i. (p, here p [], rw (new x i) e);
          here-all = λ q t i f. rw (same q t i f) has_r;
          marks = λ x l. mark-one x l (ℕ_discrete x r);
          bares = λ z. or-none (has z s.bare) (has z (p ∷ []) && rowless table z) (sym (alone p z (At r) e) ∙ and-false (has z (p ∷ [])));
          room_for = omega arith;
        }

    one-met : (us : List ℕ) × MetAll (p ∷ []) us s (meet_row (At r) p s)
    one-met = go (eqb (get_or s.mark r 0) 0) refl
      where
        go : (b : Bool) → eqb (get_or s.mark r 0) 0 ≡ b → (us : List ℕ) × MetAll (p ∷ []) us s (met (set s.mark r 1) (cond b (s.list ++ (r ∷ [])) s.list) s.bare)
        go true b = (r ∷ [], row-met (r ∷ []) (s.list ++ (r ∷ [])) (held_new n s h r lt (eqb-true _ _ b)) refl (λ x i. only r x i) (snoc_new r s.list))
        go false b = ([], row-met [] s.list (held-old n s h r lt (eqb-false _ _ b)) (sym (append-nil s.list)) (λ x i. never i) (was-met n s h r lt (eqb-false _ _ b)))

  one : (p : ℕ) (f : Found) (s : Met) → where_is table p ≡ f → MetOnce n s → (us : List ℕ) × MetAll (p ∷ []) us s (meet_row f p s)
  one p Nothing s e h = ([], none-met p s e h)
  one p (At r) s e h = one-met p r s e h

  pub held-meet : (p : ℕ) (s : Met) → MetOnce n s → MetOnce n (meet table p s)
  held-meet p s h = (one p (where_is table p) s refl h).1.held

  -- ---- all

  pub met_all : (ps : List ℕ) (s : Met) → MetOnce n s → (us : List ℕ) × MetAll ps us s (meet_all table ps s)
  unfolding meet_all
  met_all [] s h = (
    [],
    record {
      held = h;
      longer = sym (append-nil s.list);
      fresh = λ x i. never i;
      here-all = λ p r i k. never i;
      marks = λ x l. or-none (eqb (get_or s.mark x 0) 1) false refl;
      bares = λ z. or-none (has z s.bare) false refl;
      room_for = omega arith;
    },
  )
  met_all (q ∷ ps) s h = go (one q (where_is table q) s refl h) (met_all ps (meet table q s))
    where
      go : (us : List ℕ) × MetAll (q ∷ []) us s (meet table q s) → (MetOnce n (meet table q s) → (us : List ℕ) × MetAll ps us (meet table q s) (meet_all table ps (meet table q s)))
          → (us : List ℕ) × MetAll (q ∷ ps) us s (meet_all table ps (meet table q s))
      go (us, a) f = join (f a.held)
        where
          join : (vs : List ℕ) × MetAll ps vs (meet table q s) (meet_all table ps (meet table q s)) → (ws : List ℕ) × MetAll (q ∷ ps) ws s (meet_all table ps (meet table q s))
          join (vs, b) = (
            us ++ vs,
            record {
              held = b.held;
              longer = b.longer ∙ rw a.longer (append_assoc s.list us vs);
              fresh = λ x i. new x (split x i);
              here-all = λ p r i k. ⊎_elim (λ (z : p ≡ q). stay r (a.here-all p r (rw z (here q [])) k)) (λ (z : p ∈ ps). b.here-all p r z k) (in-cons p q ps i);
              marks = λ x l. b.marks x l ∙ ap (λ (t : Bool). t || has (get_or table x 0) ps) (a.marks x l) ∙ or-joined (eqb (get_or s.mark x 0) 1) (eqb q (get_or table x 0)) (has (get_or table x 0) ps);
              bares = λ z. b.bares z ∙ ap (λ (t : Bool). t || (has z ps && rowless table z)) (a.bares z) ∙ and-joined (has z s.bare) (eqb q z) (has z ps) (rowless table z);
              room_for = omega (arith, a.room_for, b.room_for);
            },
          )
            where
              split : (x : ℕ) → x ∈ (us ++ vs) → (x ∈ us) ⊎ (x ∈ vs)
              split x i = ⊎_elim (λ (z : x ∈ us). inl z) (λ (z : x ∉ us). inr (sym (has-append x us vs ∙ rw z refl) ∙ i)) (true-or-false (has x us))

              new : (x : ℕ) → (x ∈ us) ⊎ (x ∈ vs) → (p : ℕ) × (p ∈ (q ∷ ps)) × (where_is table p ≡ At x)
              new x (inl i) = let r = a.fresh x i in (r.0, ⊎_elim (λ (z : r.0 ≡ q). here_eq r.0 q ps z) (λ (z : r.0 ∈ []). never z) (in-cons r.0 q [] r.1), r.2)
              new x (inr i) = let r = b.fresh x i in (r.0, there r.0 q ps r.1, r.2)

              stay : (r : ℕ) → r ∈ (meet table q s).list → r ∈ (meet_all table ps (meet table q s)).list
              stay r i = rw b.longer (in_left r (meet table q s).list vs i)
