-- A list made of a function:
--     length-tab, get_or-tab, tab-low, tab-same     what stands in it
--     tab-none, tab-more     a loop that stores f i at i, one a turn
-- Assumes nothing.
use mathlib.Core.Path.{◌≡◌, refl, ◌∙◌}
use mathlib.Core.List.{List, [], ◌∷◌, ◌++◌}
use Prim.Native.Nat.{zero-le, ℕ, zero, suc, ◌+◌, ◌<◌, ◌≤◌}
use native.Mathlib.Decide.{ℕ_discrete, dec_lt}
use native.Mathlib.Numerals.{add-one}
use native.Mathlib.Omega.{arith}
use lib.ListN.{length, get_or, set, take, length-append, get_or-append, get_or-eq_default}
use lib.Seq.{get_or_at, take-suc-set}
use Rattle.order.specs.Graph.{tab}

pub length-tab : (f : ℕ → ℕ) (n : ℕ) → length (tab f n) ≡ n
unfolding tab
length-tab f zero = refl
length-tab f (suc n) = omega (arith, length-append (tab f n) (f n ∷ []), length-tab f n)

pub get_or-tab : (f : ℕ → ℕ) (n i : ℕ) → i < n → get_or (tab f n) i 0 ≡ f i
unfolding tab
get_or-tab f zero i h = absurd (omega arith)
get_or-tab f (suc n) i h = go (get_or-tab f n i) (ℕ_discrete i n)
  where
    go : (i < n → get_or (tab f n) i 0 ≡ f i) → Dec (i ≡ n) → get_or (tab f n ++ (f n ∷ [])) i 0 ≡ f i
    go ih (yes e) = rw e (get_or_at (tab f n) (f n) [] 0 n (length-tab f n))
    go ih (no q) = get_or-append (tab f n) (f n ∷ []) 0 i (omega (arith, length-tab f n)) ∙ ih (omega arith)

-- a loop that stores f i at i, and i + 1 next
pub tab-more : (f : ℕ → ℕ) (l : List ℕ) (i v : ℕ) → i < length l → v ≡ f i → take i l ≡ tab f i → take (i + 1) (set l i v) ≡ tab f (i + 1)
unfolding tab
tab-more f l i v h e t = rw (add-one, take-suc-set l i v h, t, e) refl

pub tab-same : (f g : ℕ → ℕ) (n : ℕ) → ((i : ℕ) → i < n → f i ≡ g i) → tab f n ≡ tab g n
unfolding tab
tab-same f g zero h = refl
tab-same f g (suc n) h = rw (tab-same f g n (λ i k. h i (omega arith)), h n (omega arith)) refl

pub tab-low : (f : ℕ → ℕ) (n b : ℕ) → ((i : ℕ) → i < n → f i ≤ b) → (i : ℕ) → get_or (tab f n) i 0 ≤ b
tab-low f n b h i = go (dec_lt i n)
  where
    go : Dec (i < n) → get_or (tab f n) i 0 ≤ b
    go (yes q) = rw (get_or-tab f n i q) (h i q)
    go (no q) = rw (get_or-eq_default (tab f n) 0 {n = i} (omega (arith, length-tab f n))) zero-le

pub tab-none : (f : ℕ → ℕ) (l : List ℕ) → take 0 l ≡ tab f 0
unfolding tab
tab-none f l = refl
