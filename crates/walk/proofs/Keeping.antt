-- Each id of rising rows once: the loop over the rows (`kept-start`, `kept_step`, `kept-end`).
-- Assumes nothing.
use Prim.Native.Nat.{ℕ, zero, suc, ◌+◌, ◌-◌, ◌*◌, ◌<◌, ◌≤◌}
use native.Mathlib.Omega.{arith}
use native.Mathlib.Numerals.{add-one}
use mathlib.Core.Path.{◌≡◌, refl, sym, ap, ◌∙◌}
use mathlib.Core.Bool.{Bool, true, false, cond, not, ◌||◌}
use mathlib.Core.Logic.{⊎_elim}
use mathlib.Core.List.{List, [], ◌∷◌, ◌++◌}
use borrow.Author.Tests.{eqb-true, eqb-false}
use lib.Dec.{eqb}
use lib.ListN.{length, get_or, set, take, drop}
use lib.Seq.{take-suc, take_all, take-set-le, get_or-drop}
use Rattle.lists.specs.Lists.{has, ◌∈◌}
use Rattle.lists.proofs.Cases.{lt-or-le}
use Rattle.lists.proofs.SetLaws.{never, here, there, has-append, take-place}
use Rattle.words.specs.Part.{part}
use Rattle.words.specs.Table.{ids}
use Rattle.words.proofs.TableLaws.{length_ids, ids_at}
use Rattle.tabled.proofs.Kept.{word_kept}
use Rattle.walk.specs.Kept.{Kept, Rises, is_new}
use Rattle.walk.proofs.Singles.{asc-snoc}
use Rattle.walk.proofs.Steps.{part-more}

or-idle : (s t : Bool) → (t ≡ true → s ≡ true) → s ≡ (s || (t || false))
or-idle true t h = refl
or-idle false true h = never (h refl)
or-idle false false h = refl

-- a place before i holds what stands before i
place_in : (l : List ℕ) (j i : ℕ) → j < i → i ≤ length l → get_or l j 0 ∈ take i l
place_in [] j zero h k = absurd (omega arith)
place_in [] j (suc i) h k = absurd (omega arith)
place_in (y ∷ l) j zero h k = absurd (omega arith)
place_in (y ∷ l) zero (suc i) h k = here y (take i l)
place_in (y ∷ l) (suc j) (suc i) h k = there (get_or l j 0) y (take i l) (place_in l j i (omega arith) (omega arith))

module _ (l : List ℕ) (rise : (i j : ℕ) → i < j → j < length l → get_or l i 0 ≤ get_or l j 0) (a : List ℕ) (i : ℕ) (kept : Kept a (take i l)) (h : i < length l) where
  abbrev x : ℕ
  x = get_or l i 0

  more : (z : ℕ) → has z (take (i + 1) l) ≡ (has z (take i l) || (eqb x z || false))
  more z = rw (add-one, take-suc l i 0 h) (has-append z (take i l) (x ∷ []))

  kept-old : 0 < i → x ≡ get_or l (i - 1) 0 → Kept a (take (i + 1) l)
  kept-old p e =
      record {
        up = kept.up;
        same = λ z. kept.same z ∙ or-idle (has z (take i l)) (eqb x z) (λ t. rw (← eqb-true x z t) there-it) ∙ sym (more z);
      }
    where
      there-it : x ∈ take i l
      there-it = rw e (place_in l (i - 1) i (omega arith) (omega arith))

  kept_new : (0 < i → x ≡ get_or l (i - 1) 0 → ⊥) → Kept (a ++ (x ∷ [])) (take (i + 1) l)
  kept_new n =
      record {
        up = asc-snoc x a kept.up (λ z k. lower z (take-place z i l (sym (kept.same z) ∙ k)));
        same = λ z. has-append z a (x ∷ []) ∙ ap (λ (t : Bool). t || (eqb x z || false)) (kept.same z) ∙ sym (more z);
      }
    where
      lower : (z : ℕ) → (j : ℕ) × (j < i) × (j < length l) × (get_or l j 0 ≡ z) → z < x
      lower z (j, p, q, e) = rw (← e) (by (i - 1) refl)
        where
          by : (d : ℕ) → d ≡ i - 1 → get_or l j 0 < x
          by d ed =
              let last : get_or l j 0 ≤ get_or l d 0 = ⊎_elim (λ (k : j < d). rise j d k (omega arith)) (λ (k : d ≤ j). let s : j ≡ d = omega arith in rw s (omega arith)) (lt-or-le j d) in
              let step : get_or l d 0 ≤ x = rise d i (omega arith) h in
              omega (arith, last, step, apart d ed)
            where
              apart : (d : ℕ) → d ≡ i - 1 → x ≡ get_or l d 0 → ⊥
              apart d ed q = n (omega arith) (rw ed at q)

-- ---- in the work area

pub first-at : (w : List ℕ) (a m i : ℕ) → i < m → get_or (ids (drop a w) 3 m) i 0 ≡ get_or w (a + 3 * i) 0
first-at w a m i h = ids_at (drop a w) 3 m i h ∙ get_or-drop a w (i * 3) 0 ∙ ap (λ (k : ℕ). get_or w k 0) (three a i)
  where
    three : (a i : ℕ) → a + i * 3 ≡ a + 3 * i
    three a i = omega arith

module _ (w₀ : List ℕ) (a m b : ℕ) (apart : a + 3 * m ≤ b) (room : b + m ≤ length w₀) (rises : Rises w₀ a m) where
  abbrev l : List ℕ
  l = ids (drop a w₀) 3 m

  size : length l ≡ m
  size = length_ids (drop a w₀) 3 m

  rise : (i j : ℕ) → i < j → j < length l → get_or l i 0 ≤ get_or l j 0
  rise i j h k =
      let k' : j < m = omega (arith, size) in
      rw (first-at w₀ a m i (omega arith), first-at w₀ a m j k') (rises i j h k')

  pub kept-start : Kept (part w₀ b 0) (take 0 l)
  kept-start = record { up = tt; same = λ z. refl }

  pub kept-end : (i k : ℕ) (w : List ℕ) → m ≤ i → Kept (part w b k) (take i l) → Kept (part w b k) l
  kept-end i k w h e = let z : take i l ≡ l = take_all i l (omega (arith, size)) in rw z at e

  module _ (i k : ℕ) (w : List ℕ) (len : length w ≡ length w₀) (front : take b w ≡ take b w₀) (ki : k ≤ i) (h : i < m) (kept : Kept (part w b k) (take i l)) where
    -- the rows stand as they did
    read : (j : ℕ) → j ≤ i → get_or w (a + 3 * j) 0 ≡ get_or w₀ (a + 3 * j) 0
    read j q = word_kept w w₀ b front (a + 3 * j) (omega arith)

    word : (j : ℕ) → j ≤ i → get_or w (a + 3 * j) 0 ≡ get_or l j 0
    word j q = read j q ∙ sym (first-at w₀ a m j (omega arith))

    pub kept_step : (w' : List ℕ) (k' : ℕ) → w' ≡ cond (is_new w a i) (set w (b + k) (get_or w (a + 3 * i) 0)) w → k' ≡ cond (is_new w a i) (k + 1) k
        → (k' ≤ i + 1) × (take b w' ≡ take b w₀) × Kept (part w' b k') (take (i + 1) l)
    kept_step w' k' ew ek = rw (ew, ek) (go (eqb i 0) refl)
      where
        old : 0 < i → get_or w (a + 3 * i) 0 ≡ get_or w (a + 3 * (i - 1)) 0 → (k ≤ i + 1) × (take b w ≡ take b w₀) × Kept (part w b k) (take (i + 1) l)
        old p e = (omega arith, front, kept-old l rise (part w b k) i kept (omega (arith, size)) p (sym (word i (omega arith)) ∙ e ∙ word (i - 1) (omega arith)))

        new : (0 < i → get_or w (a + 3 * i) 0 ≡ get_or w (a + 3 * (i - 1)) 0 → ⊥) → (k + 1 ≤ i + 1) × (take b (set w (b + k) (get_or w (a + 3 * i) 0)) ≡ take b w₀) × Kept (part (set w (b + k) (get_or w (a + 3 * i) 0)) b (k + 1)) (take (i + 1) l)
        new n = (
          omega arith,
          take-set-le b w (b + k) (get_or w (a + 3 * i) 0) (omega arith) ∙ front,
          rw (part-more w b k (get_or w (a + 3 * i) 0) (omega arith), word i (omega arith))
              (kept_new l rise (part w b k) i kept (omega (arith, size)) (λ p e. n p (word i (omega arith) ∙ e ∙ sym (word (i - 1) (omega arith))))),
        )

        same : (t : Bool) → eqb (get_or w (a + 3 * i) 0) (get_or w (a + 3 * (i - 1)) 0) ≡ t → 0 < i
            → (cond (not t) (k + 1) k ≤ i + 1) × (take b (cond (not t) (set w (b + k) (get_or w (a + 3 * i) 0)) w) ≡ take b w₀) × Kept (part (cond (not t) (set w (b + k) (get_or w (a + 3 * i) 0)) w) b (cond (not t) (k + 1) k)) (take (i + 1) l)
        same true e p = old p (eqb-true _ _ e)
        same false e p = new (λ q. eqb-false _ _ e)

        go : (t : Bool) → eqb i 0 ≡ t
            → (cond (cond t true (not (eqb (get_or w (a + 3 * i) 0) (get_or w (a + 3 * (i - 1)) 0)))) (k + 1) k ≤ i + 1)
            × (take b (cond (cond t true (not (eqb (get_or w (a + 3 * i) 0) (get_or w (a + 3 * (i - 1)) 0)))) (set w (b + k) (get_or w (a + 3 * i) 0)) w) ≡ take b w₀)
            × Kept (part (cond (cond t true (not (eqb (get_or w (a + 3 * i) 0) (get_or w (a + 3 * (i - 1)) 0)))) (set w (b + k) (get_or w (a + 3 * i) 0)) w) b (cond (cond t true (not (eqb (get_or w (a + 3 * i) 0) (get_or w (a + 3 * (i - 1)) 0)))) (k + 1) k)) (take (i + 1) l)
        go true e = new (λ p q. absurd (omega (arith, eqb-true i 0 e)))
        go false e = same (eqb (get_or w (a + 3 * i) 0) (get_or w (a + 3 * (i - 1)) 0)) refl (omega (arith, eqb-false i 0 e))
