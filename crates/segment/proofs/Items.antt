-- One edge list, item by item: where the item at `i` ends the walk, and what is left where it does not.
-- Assumes nothing.
use Prim.Native.Nat.{ℕ, zero, suc, ◌+◌, ◌-◌, ◌≤◌, ◌<◌, max, zero-le, suc-le-suc}
use mathlib.Core.Path.{◌≡◌, refl}
use mathlib.Core.Bool.{Bool, true, false, cond}
use mathlib.Core.List.{List, [], ◌∷◌, ◌++◌}
use native.Mathlib.Numerals.{add-one}
use mathlib.Core.Logic.{⊎_elim}
use native.Mathlib.Nat.{sub-zero, eq-or-lt_of_le, le_of_suc-le-suc, not-suc-le-zero}
use native.Mathlib.Omega.{arith}
use borrow.Author.Tests.{eq-eqb, ne_eqb}
use lib.ListN.{length, get_or, take, drop, drop_of_length-le}
use lib.Seq.{drop-cons, take-suc}
use lib.Dec.{eqb}
use Rattle.std.specs.Prelude.{Result, Ok, Err}
use Rattle.lists.specs.Lists.{has}
use Rattle.answers.specs.Answer.{when, ◌then◌, Judged, Accepted, Refused}
use Rattle.types.specs.declared.records.Side.{Side}
use Rattle.types.specs.declared.records.Side.TheVariants.{Parents, Children}
use Rattle.rules.specs.Rows.{duplicate, items_from, list_rule}
use Rattle.answers.specs.declared.Refusal.TheVariants as R
use Rattle.answers.specs.declared.RefusalWords.{RefusalWords}
use Rattle.segment.specs.declared.list.ListFault.TheVariants.{SelfEdge, Duplicate}
use Rattle.segment.specs.Faults.{Faulted, fault_from, fault_of, numbered, in_words}

-- none of the first i items is above top
abbrev pub Under : List ℕ → ℕ → ℕ → Type 0
Under l i top = (k : ℕ) → k < i → get_or l k 0 ≤ top

none : (x : ℕ) (l : List ℕ) (i : ℕ) → ((k : ℕ) → k < i → get_or l k 0 < x) → i ≤ length l → has x (take i l) ≡ false
none x l zero h q = refl
none x [] (suc i) h q = absurd (not-suc-le-zero q)
none x (y ∷ l) (suc i) h q =
    rw (ne_eqb y x (λ e. omega (arith, h 0 (suc-le-suc zero-le)))) (none x l i (λ k p. h (suc k) (suc-le-suc p)) (le_of_suc-le-suc q))

pub under_more : (l : List ℕ) (i top : ℕ) → Under l i top → Under l (i + 1) (max top (get_or l i 0))
under_more l i top u k p = ⊎_elim (λ (e : k ≡ i). rw e (omega arith)) (λ (q : k < i). omega (arith, u k q)) (eq-or-lt_of_le (omega (arith, p)))

-- ---- the inner loop begins behind all items before `i` where x is above them, and else at the first

module _ (x : ℕ) (l : List ℕ) (i first : ℕ) where
  pub begin_past : (top : ℕ) → Under l i top → i ≤ length l → top < x → first ≡ i → has x (take i l) ≡ has x (take (i - first) (drop first l))
  begin_past top u within h e = let z : i - i ≡ 0 = omega arith in rw (e, z) (none x l i (λ k p. omega (arith, u k p)) within)

  pub begin_first : first ≡ 0 → has x (take i l) ≡ has x (take (i - first) (drop first l))
  begin_first e = rw (e, sub-zero)

-- ---- does x stand in l from k on?

module _ (x : ℕ) (l : List ℕ) (k : ℕ) where
  pub scan_miss : k < length l → (get_or l k 0 ≡ x → ⊥) → has x (drop k l) ≡ has x (drop (k + 1) l)
  scan_miss h other = rw (add-one, drop-cons l k 0, ne_eqb _ _ other)

  pub scan_hit : k < length l → get_or l k 0 ≡ x → has x (drop k l) ≡ true
  scan_hit h same = rw (drop-cons l k 0, eq-eqb _ _ same)

  pub scan_none : length l ≤ k → has x (drop k l) ≡ false
  scan_none h = rw (drop_of_length-le l h)

-- ---- the ways out of the outer loop, and its next turn: `rest` is the loop's invariant

module _ (id : ℕ) (l : List ℕ) (i : ℕ) (rest : fault_of id l ≡ fault_from id (take i l) (drop i l)) where
  pub fault_end : length l ≤ i → fault_of id l ≡ Ok tt
  unfolding fault_from
  fault_end h = rw (rest, drop_of_length-le l h)

  module _ (below : i < length l) where
    next : fault_of id l ≡
        cond (eqb (get_or l i 0) id) (Err SelfEdge)
        (cond (has (get_or l i 0) (take i l)) (Err (Duplicate (get_or l i 0)))
        (fault_from id (take (i + 1) l) (drop (i + 1) l)))
    unfolding fault_from
    next = rw (rest, add-one, drop-cons l i 0, take-suc l i 0)

    pub fault_self : get_or l i 0 ≡ id → fault_of id l ≡ Err SelfEdge
    fault_self same = rw (next, eq-eqb _ _ same)

    module _ (other : get_or l i 0 ≡ id → ⊥) where
      pub fault_double : has (get_or l i 0) (take i l) ≡ true → fault_of id l ≡ Err (Duplicate (get_or l i 0))
      fault_double dup = rw (next, ne_eqb _ _ other, dup)

      pub fault_more : has (get_or l i 0) (take i l) ≡ false → fault_of id l ≡ fault_from id (take (i + 1) l) (drop (i + 1) l)
      fault_more new = rw (next, ne_eqb _ _ other, new)

-- ---- the rule's refusal is that of the fault

abbrev told : Side → ℕ → Faulted → Judged
told side id (Ok tt) = Accepted
told side id (Err SelfEdge) = Refused (R.SelfEdge id)
told side id (Err (Duplicate x)) = Refused (duplicate side id x)

told-next : (side : Side) (id x : ℕ) (own before : Bool) (f : Faulted) (rest : Judged) → told side id f ≡ rest
    → told side id (cond own (Err SelfEdge) (cond before (Err (Duplicate x)) f))
    ≡ when own (Refused (R.SelfEdge id)) then when before (Refused (duplicate side id x)) then rest
told-next side id x true before f rest e = refl
told-next side id x false true f rest e = refl
told-next side id x false false f rest e = e

told_items : (side : Side) (id : ℕ) (before list : List ℕ) → told side id (fault_from id before list) ≡ items_from side id before list
unfolding fault_from items_from
told_items side id before [] = refl
told_items side id before (x ∷ xs) = told-next side id x (eqb x id) (has x before) _ _ (told_items side id (before ++ (x ∷ [])) xs)

pub list_told : (side : Side) (id : ℕ) (list : List ℕ) (f : Faulted) (r : Judged) → f ≡ fault_of id list → r ≡ told side id f → r ≡ list_rule side id list
unfolding fault_of list_rule
list_told side id list f r e v = rw (v, e, told_items side id [] list)

-- ---- in words, by a given number: at 20 what the rule says of parents, at 21 what it says of children

parents-by : (id : ℕ) (f : Faulted) → numbered 20 id f ≡ in_words (told Parents id f)
parents-by id (Ok tt) = refl
parents-by id (Err SelfEdge) = refl
parents-by id (Err (Duplicate x)) = refl

children-by : (id : ℕ) (f : Faulted) → numbered 21 id f ≡ in_words (told Children id f)
children-by id (Ok tt) = refl
children-by id (Err SelfEdge) = refl
children-by id (Err (Duplicate x)) = refl

module _ (id number : ℕ) (list : List ℕ) (f : Faulted) (r : Result (Unit {0}) RefusalWords) where
  pub parents_told : f ≡ fault_of id list → r ≡ numbered number id f → number ≡ 20 → r ≡ in_words (list_rule Parents id list)
  unfolding fault_of list_rule
  parents_told e v n = rw (v, n, parents-by id f, e, told_items Parents id [] list)

  pub children_told : f ≡ fault_of id list → r ≡ numbered number id f → number ≡ 21 → r ≡ in_words (list_rule Children id list)
  unfolding fault_of list_rule
  children_told e v n = rw (v, n, children-by id f, e, told_items Children id [] list)

pub ruleset numbered_told = (parents_told, children_told)
