-- A pair looked up in sorted rows: the test, the bracket of the search, and its end.
-- By the order of the rows, which (x, y) divides into those before it and the others. Assumes nothing.
use Prim.Native.Nat.{ℕ, zero, suc, ◌+◌, ◌*◌, ◌≤◌, ◌<◌, zero-le, suc-le-suc}
use native.Mathlib.Nat.{le_of_suc-le-suc, not-suc-le-zero}
use native.Mathlib.Omega.{arith}
use mathlib.Core.Bool.{Bool, true, false, ◌||◌, ◌&&◌}
use mathlib.Core.Path.{◌≡◌, refl, sym, ap, ◌∙◌}
use mathlib.Core.List.{List, [], ◌∷◌}
use mathlib.Core.Logic.{◌⊎◌, inl, inr, ⊎_elim}
use lib.ListN.{length, get_or}
use lib.Dec.{eqb, ltb}
use borrow.Author.Tests.{lt-ltb, le-ltb, eq-eqb, ne_eqb}
use Rattle.lists.proofs.Cases.{lt-or-le, eq-or-ne}
use Rattle.lists.specs.Sort.{Row, le3}
use Rattle.sorts.specs.Rows.{rows}
use Rattle.sorts.specs.Heap.{at}
use Rattle.lists.proofs.SortLaws.{true-or-false}
use Rattle.lists.proofs.RowOrder.{Lex, to-lex, no}
use Rattle.sorts.proofs.RowLaws.{rows_at}
use Rattle.lookups.specs.PairSearch.{has_pair, pair_lt, Ordered}

-- ---- the test

-- the row stands before (x, y)
abbrev Lt : Row → ℕ → ℕ → Type 0
Lt r x y = (r.0 < x) ⊎ ((r.0 ≡ x) × (r.1 < y))

lt-true : (r : Row) (x y : ℕ) → Lt r x y → pair_lt r x y ≡ true
lt-true r x y (inl h) = rw (lt-ltb r.0 x h) refl
lt-true r x y (inr h) = rw (le-ltb r.0 x (omega arith), eq-eqb r.0 x h.0, lt-ltb r.1 y h.1) refl

lt-or-not : (r : Row) (x y : ℕ) → Lt r x y ⊎ (pair_lt r x y ≡ false)
lt-or-not r x y =
    ⊎_elim (λ (h : r.0 < x). inl (inl h))
    (λ (h : x ≤ r.0).
    ⊎_elim
    (λ (e : r.0 ≡ x).
    ⊎_elim (λ (g : r.1 < y). inl (inr (e, g))) (λ (g : y ≤ r.1). inr (rw (le-ltb r.0 x h, eq-eqb r.0 x e, le-ltb r.1 y g) refl)) (lt-or-le r.1 y))
    (λ (e : r.0 ≡ x → ⊥). inr (rw (le-ltb r.0 x h, ne_eqb r.0 x e) refl))
    (eq-or-ne r.0 x))
    (lt-or-le r.0 x)

true-lt : (r : Row) (x y : ℕ) → pair_lt r x y ≡ true → Lt r x y
true-lt r x y e = ⊎_elim (λ h. h) (λ (h : pair_lt r x y ≡ false). no (sym e ∙ h)) (lt-or-not r x y)

-- a row not after one that stands before (x, y) does so too
down : (r s : Row) (x y : ℕ) → le3 r s ≡ true → pair_lt s x y ≡ true → pair_lt r x y ≡ true
unfolding Lex
down r s x y e h =
    lt-true r x y
    (⊎_elim
    (λ (a : r.0 < s.0). ⊎_elim (λ (b : s.0 < x). inl (omega arith)) (λ (b : (s.0 ≡ x) × (s.1 < y)). inl (omega arith)) (true-lt s x y h))
    (λ (a : (r.0 ≡ s.0) × ((r.1 < s.1) ⊎ ((r.1 ≡ s.1) × (r.2 ≤ s.2)))).
    ⊎_elim (λ (b : s.0 < x). inl (omega arith))
    (λ (b : (s.0 ≡ x) × (s.1 < y)).
    ⊎_elim (λ (d : r.1 < s.1). inr (omega arith, omega arith)) (λ (d : (r.1 ≡ s.1) × (r.2 ≤ s.2)). inr (omega arith, omega arith)) a.1)
    (true-lt s x y h))
    (to-lex r s e))

up : (r s : Row) (x y : ℕ) → le3 r s ≡ true → pair_lt r x y ≡ false → pair_lt s x y ≡ false
up r s x y e h = ⊎_elim (λ (g : pair_lt s x y ≡ true). no (sym (down r s x y e g) ∙ h)) (λ g. g) (true-or-false (pair_lt s x y))

-- ---- the search: what is below lo stands before (x, y), and what is from hi on does not

pub record Between (l : List Row) (x y k lo hi : ℕ) : Type 0 where
  pub order : lo ≤ hi
  pub within : hi ≤ k
  pub low : (j : ℕ) → j < lo → pair_lt (at l j) x y ≡ true
  pub high : (j : ℕ) → hi ≤ j → j < k → pair_lt (at l j) x y ≡ false

pub between_start : (l : List Row) (x y k : ℕ) → Between l x y k 0 k
between_start l x y k = record { order = omega arith; within = omega arith; low = λ j h. absurd (omega arith); high = λ j h g. absurd (omega arith) }

module _ (l : List Row) (x y k lo hi : ℕ) (size : length l ≡ k) (asc : Ordered l) (b : Between l x y k lo hi) where
  module _ (m : ℕ) (from : lo ≤ m) (to : m < hi) (t : Bool) (said : t ≡ pair_lt (at l m) x y) where
    pub between-up : t ≡ true → Between l x y k (m + 1) hi
    between-up told = record {
      order = omega arith;
      within = b.within;
      low = λ j h.
          ⊎_elim (λ (e : j ≡ m). ap (λ (i : ℕ). pair_lt (at l i) x y) e ∙ sym said ∙ told)
          (λ (e : j ≡ m → ⊥). down (at l j) (at l m) x y (asc j m (omega arith) (omega (arith, b.within))) (sym said ∙ told)) (eq-or-ne j m);
      high = b.high;
    }

    pub between-down : t ≡ false → Between l x y k lo m
    between-down told = record {
      order = from;
      within = omega (arith, b.within);
      low = b.low;
      high = λ j h g.
          ⊎_elim (λ (e : j ≡ m). ap (λ (i : ℕ). pair_lt (at l i) x y) e ∙ sym said ∙ told)
          (λ (e : j ≡ m → ⊥). up (at l m) (at l j) x y (asc m j (omega arith) (omega arith)) (sym said ∙ told)) (eq-or-ne j m);
    }

-- ---- the end

pair-hit : (x y : ℕ) (l : List Row) (j : ℕ) → j < length l → (at l j).0 ≡ x → (at l j).1 ≡ y → has_pair x y l ≡ true
pair-hit x y [] j h e f = absurd (not-suc-le-zero h)
pair-hit x y (r ∷ l) zero h e f = rw (eq-eqb r.0 x e, eq-eqb r.1 y f) refl
pair-hit x y (r ∷ l) (suc j) h e f = by (eqb r.0 x && eqb r.1 y) (pair-hit x y l j (le_of_suc-le-suc h) e f)
  where
    by : (t : Bool) → has_pair x y l ≡ true → t || has_pair x y l ≡ true
    by true g = refl
    by false g = g

differs : (r : Row) (x y : ℕ) → (r.0 ≡ x → r.1 ≡ y → ⊥) → eqb r.0 x && eqb r.1 y ≡ false
differs r x y n =
    ⊎_elim (λ (e : r.0 ≡ x). rw (eq-eqb r.0 x e, ne_eqb r.1 y (n e)) refl) (λ (e : r.0 ≡ x → ⊥). rw (ne_eqb r.0 x e) refl) (eq-or-ne r.0 x)

pair-none : (x y : ℕ) (l : List Row) → ((j : ℕ) → j < length l → (at l j).0 ≡ x → (at l j).1 ≡ y → ⊥) → has_pair x y l ≡ false
pair-none x y [] n = refl
pair-none x y (r ∷ l) n = rw (differs r x y (n 0 (suc-le-suc zero-le))) (pair-none x y l (λ j h. n (suc j) (suc-le-suc h)))

-- (x, y) itself does not stand before (x, y)
not-self : (r : Row) (x y : ℕ) → r.0 ≡ x → r.1 ≡ y → pair_lt r x y ≡ true → ⊥
not-self r x y e f h = ⊎_elim (λ (a : r.0 < x). omega arith) (λ (a : (r.0 ≡ x) × (r.1 < y)). omega arith) (true-lt r x y h)

module _ (l : List Row) (x y k p hi : ℕ) (size : length l ≡ k) (asc : Ordered l) (b : Between l x y k p hi) (over : hi ≤ p) where
  pub between-end : has_pair x y l ≡ (ltb p k && (eqb (at l p).0 x && eqb (at l p).1 y))
  unfolding Lex
  between-end =
      ⊎_elim
      (λ (h : p < k).
      let here : pair_lt (at l p) x y ≡ false = b.high p over h in
      ⊎_elim
      (λ (e : (at l p).0 ≡ x).
      ⊎_elim
      (λ (f : (at l p).1 ≡ y). pair-hit x y l p (omega arith) e f ∙ sym (rw (lt-ltb p k h, eq-eqb (at l p).0 x e, eq-eqb (at l p).1 y f) refl))
      (λ (f : (at l p).1 ≡ y → ⊥). none h here (λ e' f'. f f'))
      (eq-or-ne (at l p).1 y))
      (λ (e : (at l p).0 ≡ x → ⊥). none h here (λ e' f'. e e'))
      (eq-or-ne (at l p).0 x))
      (λ (h : k ≤ p).
      pair-none x y l (λ j g e f. not-self (at l j) x y e f (b.low j (omega arith))) ∙ sym (rw (le-ltb p k h) refl))
      (lt-or-le p k)
    where
      none : p < k → pair_lt (at l p) x y ≡ false → ((at l p).0 ≡ x → (at l p).1 ≡ y → ⊥) → has_pair x y l ≡ (ltb p k && (eqb (at l p).0 x && eqb (at l p).1 y))
      none h here n =
          pair-none x y l
          (λ j g e f.
          ⊎_elim (λ (a : j < p). not-self (at l j) x y e f (b.low j a))
          (λ (a : p ≤ j).
          ⊎_elim (λ (q : p ≡ j). n (ap (λ (i : ℕ). (at l i).0) q ∙ e) (ap (λ (i : ℕ). (at l i).1) q ∙ f))
          (λ (q : p ≡ j → ⊥).
          ⊎_elim
          (λ (u : (at l p).0 < (at l j).0). let z : Lt (at l p) x y = inl (omega arith) in no (sym (lt-true (at l p) x y z) ∙ here))
          (λ (u : ((at l p).0 ≡ (at l j).0) × (((at l p).1 < (at l j).1) ⊎ (((at l p).1 ≡ (at l j).1) × ((at l p).2 ≤ (at l j).2)))).
          ⊎_elim (λ (v : (at l p).1 < (at l j).1). let z : Lt (at l p) x y = inr (omega arith, omega arith) in no (sym (lt-true (at l p) x y z) ∙ here))
          (λ (v : ((at l p).1 ≡ (at l j).1) × ((at l p).2 ≤ (at l j).2)). n (u.0 ∙ e) (v.0 ∙ f)) u.1)
          (to-lex (at l p) (at l j) (asc p j (omega arith) g)))
          (eq-or-ne p j))
          (lt-or-le j p))
          ∙ sym (rw (lt-ltb p k h, differs (at l p) x y n) refl)

-- ---- what `has_pair` says of the place it got

module _ (pairs : List ℕ) (k x y p : ℕ) (size : length pairs ≡ 3 * k) (said : has_pair x y (rows pairs) ≡ (ltb p k && (eqb (at (rows pairs) p).0 x && eqb (at (rows pairs) p).1 y))) where
  pub has_past : k ≤ p → false ≡ has_pair x y (rows pairs)
  has_past h = sym (said ∙ rw (le-ltb p k h) refl)

  pub has_other : p < k → (get_or pairs (3 * p) 0 ≡ x → ⊥) → eqb (get_or pairs (3 * p) 0) x ≡ has_pair x y (rows pairs)
  has_other h n = rw (ne_eqb (get_or pairs (3 * p) 0) x n) (sym (said ∙ rw (lt-ltb p k h, rows_at pairs p (omega arith), ne_eqb (get_or pairs (3 * p) 0) x n) refl))

  pub has_here : p < k → get_or pairs (3 * p) 0 ≡ x → eqb (get_or pairs (3 * p + 1) 0) y ≡ has_pair x y (rows pairs)
  has_here h e = sym (said ∙ rw (lt-ltb p k h, rows_at pairs p (omega arith), eq-eqb (get_or pairs (3 * p) 0) x e) refl)
