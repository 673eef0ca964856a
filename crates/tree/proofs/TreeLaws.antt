-- The tournament tree:
--     least-le, least-low, least-hit     the least of a list is below all of them, and is one of them or n
--     root, no-slots     the root is the least slot, by way of the word's parent and of the lesser child
-- Assumes nothing.
use mathlib.Core.Path.{◌≡◌, refl, sym, ap, ◌∙◌}
use mathlib.Core.List.{List, [], ◌∷◌}
use mathlib.Core.Logic.{◌⊎◌, inl, inr}
use Prim.Native.Nat.{ℕ, zero-le, zero, suc, ◌+◌, ◌-◌, ◌*◌, ◌/◌, ◌<◌, ◌≤◌, min}
use native.Mathlib.Nat.{min-eq_left, min-eq_right, le_antisymm, le_of_suc-le-suc, le_refl, le_trans}
use native.Mathlib.Decide.{ℕ_discrete, dec_le}
use native.Mathlib.Omega.{arith}
use lib.ListN.{length, get_or, drop, length-drop}
use lib.Seq.{get_or-drop}
use Rattle.tree.specs.Tree.{Tree, Low, least}

min-case : (a b : ℕ) → (min a b ≡ a) ⊎ (min a b ≡ b)
min-case a b = go (dec_le a b)
  where
    go : Dec (a ≤ b) → (min a b ≡ a) ⊎ (min a b ≡ b)
    go (yes h) = inl (min-eq_left h)
    go (no h) = inr (min-eq_right (omega arith))

module _ (n : ℕ) (t : List ℕ) (b : Tree n t) where
  up_le : (k : ℕ) → 2 ≤ k → k < 2 * n → get_or t (k / 2) 0 ≤ get_or t k 0
  up_le k a h = go (ℕ_discrete k (2 * (k / 2)))
    where
      m : get_or t (k / 2) 0 ≡ min (get_or t (2 * (k / 2)) 0) (get_or t (2 * (k / 2) + 1) 0)
      m = b.node (k / 2) (omega arith) (omega arith)

      go : Dec (k ≡ 2 * (k / 2)) → get_or t (k / 2) 0 ≤ get_or t k 0
      go (yes e) = let z : get_or t k 0 ≡ get_or t (2 * (k / 2)) 0 = ap (λ (j : ℕ). get_or t j 0) e in omega (arith, m)
      go (no q) = let z : get_or t k 0 ≡ get_or t (2 * (k / 2) + 1) 0 = ap (λ (j : ℕ). get_or t j 0) (omega arith) in omega (arith, m)

  root-le : (f k : ℕ) → k ≤ f → 1 ≤ k → k < 2 * n → get_or t 1 0 ≤ get_or t k 0
  root-le zero k h a l = absurd (omega arith)
  root-le (suc f) k h a l = go (λ q. root-le f (k / 2) (omega arith) (omega arith) (omega arith)) (ℕ_discrete k 1)
    where
      go : (2 ≤ k → get_or t 1 0 ≤ get_or t (k / 2) 0) → Dec (k ≡ 1) → get_or t 1 0 ≤ get_or t k 0
      go ih (yes e) = rw e (le_refl _)
      go ih (no q) = le_trans (ih (omega arith)) (up_le k (omega arith) l)

  -- the word k is some slot's
  abbrev Slot : ℕ → Type 0
  Slot k = (j : ℕ) × (n ≤ j) × (j < 2 * n) × (get_or t k 0 ≡ get_or t j 0)

  slot_of : (f k : ℕ) → 2 * n ≤ k + f → 1 ≤ k → k < 2 * n → Slot k
  slot_of zero k h a l = absurd (omega arith)
  slot_of (suc f) k h a l = go (λ q. slot_of f (2 * k) (omega arith) (omega arith) (omega arith)) (λ q. slot_of f (2 * k + 1) (omega arith) (omega arith) (omega arith)) (dec_le n k)
    where
      pick : k < n → Slot (2 * k) → Slot (2 * k + 1) → (min (get_or t (2 * k) 0) (get_or t (2 * k + 1) 0) ≡ get_or t (2 * k) 0) ⊎ (min (get_or t (2 * k) 0) (get_or t (2 * k + 1) 0) ≡ get_or t (2 * k + 1) 0) → Slot k
      pick q x y (inl e) = (x.0, x.1, x.2, b.node k a q ∙ e ∙ x.3)
      pick q x y (inr e) = (y.0, y.1, y.2, b.node k a q ∙ e ∙ y.3)

      go : (k < n → Slot (2 * k)) → (k < n → Slot (2 * k + 1)) → Dec (n ≤ k) → Slot k
      go x y (yes q) = (k, q, l, refl)
      go x y (no q) = let p : k < n = omega arith in pick p (x p) (y p) (min-case _ _)

-- `least` is at most each element and at most n, and is one of them
pub least-le : (l : List ℕ) (n i : ℕ) → i < length l → least l n ≤ get_or l i 0
unfolding least
least-le [] n i h = absurd (omega arith)
least-le (x ∷ xs) n zero h = omega arith
least-le (x ∷ xs) n (suc i) h = omega (arith, least-le xs n i (le_of_suc-le-suc h))

pub least-low : (l : List ℕ) (n : ℕ) → least l n ≤ n
unfolding least
least-low [] n = le_refl n
least-low (x ∷ xs) n = omega (arith, least-low xs n)

abbrev pub Hit : List ℕ → ℕ → ℕ → Type 0
Hit l n v = (v ≡ n) ⊎ ((i : ℕ) × (i < length l) × (v ≡ get_or l i 0))

pub least-hit : (l : List ℕ) (n : ℕ) → Hit l n (least l n)
unfolding least
least-hit [] n = inl refl
least-hit (x ∷ xs) n = go (least-hit xs n) (min-case x (least xs n))
  where
    deeper : min x (least xs n) ≡ least xs n → Hit xs n (least xs n) → Hit (x ∷ xs) n (min x (least xs n))
    deeper e (inl p) = inl (e ∙ p)
    deeper e (inr p) = inr (suc p.0, omega (arith, p.1), e ∙ p.2)

    go : Hit xs n (least xs n) → (min x (least xs n) ≡ x) ⊎ (min x (least xs n) ≡ least xs n) → Hit (x ∷ xs) n (min x (least xs n))
    go h (inl e) = inr (zero, omega arith, e)
    go h (inr e) = deeper e h

-- the root is the least slot
pub root : (n : ℕ) (t : List ℕ) → Tree n t → 0 < n → Low n (drop n t) → get_or t 1 0 ≡ least (drop n t) n
root n t b p low = le_antisymm (below (least-hit (drop n t) n)) above
  where
    below : Hit (drop n t) n (least (drop n t) n) → get_or t 1 0 ≤ least (drop n t) n
    below (inl e) =
        let z = low 0 in
        let y : get_or (drop n t) 0 0 ≡ get_or t (n + 0) 0 = get_or-drop n t 0 0 in
        omega (arith, root-le n t b (n + 0) (n + 0) (le_refl _) (omega arith) (omega arith))
    below (inr (i, q, e)) =
        let z : length (drop n t) ≡ length t - n = length-drop n t in
        let y : get_or (drop n t) i 0 ≡ get_or t (n + i) 0 = get_or-drop n t i 0 in
        omega (arith, b.size, root-le n t b (n + i) (n + i) (le_refl _) (omega arith) (omega (arith, b.size)))

    above : least (drop n t) n ≤ get_or t 1 0
    above =
        let s = slot_of n t b (2 * n) 1 (omega arith) (omega arith) (omega arith) in
        let i : ℕ = s.0 - n in
        let z : length (drop n t) ≡ length t - n = length-drop n t in
        let y : get_or (drop n t) i 0 ≡ get_or t (n + i) 0 = get_or-drop n t i 0 in
        let x : get_or t (n + i) 0 ≡ get_or t s.0 0 = ap (λ (j : ℕ). get_or t j 0) (sym (omega (arith, s.1))) in
        omega (arith, s.3, least-le (drop n t) n i (omega (arith, b.size, s.1, s.2)))

-- a tree of no slots
pub no-slots : (n : ℕ) (t : List ℕ) → Tree n t → n ≡ 0 → 0 ≡ least (drop n t) n
no-slots n t b e = le_antisymm zero-le (le_trans (least-low (drop n t) n) (omega arith))
