-- The state at the start: what degrees, depths and slots have to be (begun), that they are low, and a turn of the loop that fills the slots.
-- Assumes nothing.
use mathlib.Core.Path.{◌≡◌, refl, ◌∙◌}
use mathlib.Core.Bool.{Bool, true, false, cond}
use mathlib.Core.List.{List}
use Prim.Native.Nat.{ℕ, ◌+◌, ◌<◌, ◌≤◌}
use native.Mathlib.Nat.{le_refl}
use native.Mathlib.Decide.{dec_lt}
use native.Mathlib.Omega.{arith}
use lib.Dec.{eqb}
use lib.ListN.{length, get_or, take, drop, set, replicate, get_or-replicate, length-replicate, get_or-eq_default}
use Rattle.tree.specs.Tree.{Low, Tree}
use Rattle.order.specs.Graph.{st, start, tab, parents}
use Rattle.order.proofs.RunLaws.{st-eq, slots_length}
use Rattle.order.proofs.TabLaws.{get_or-tab, tab-same, tab-low, tab-more}

module _ (n : ℕ) (off edges deg dep tree : List ℕ) (ed : deg ≡ tab (λ i. length (parents off edges i)) n) (ez : dep ≡ replicate n 0) (er : drop n tree ≡ tab (λ i. cond (eqb (get_or deg i 0) 0) i n) n) where
  pub begun : st n deg dep tree ≡ start n off edges
  begun = st-eq ed ez (er ∙ tab-same (λ i. cond (eqb (get_or deg i 0) 0) i n) (λ i. cond (eqb (length (parents off edges i)) 0) i n) n (λ i h. rw (ed, get_or-tab (λ i. length (parents off edges i)) n i h) refl))

  pub begun-slots : Low n (drop n tree)
  begun-slots = rw er (tab-low (λ i. cond (eqb (get_or deg i 0) 0) i n) n n (λ i h. low i h (eqb (get_or deg i 0) 0)))
    where
      low : (i : ℕ) → i < n → (b : Bool) → cond b i n ≤ n
      low i h true = omega arith
      low i h false = le_refl n

  pub begun-zero : Low 0 dep
  begun-zero i = rw ez (go (dec_lt i n))
    where
      zs : List ℕ
      zs = replicate n 0

      zl : length zs ≡ n
      zl = length-replicate n 0

      go : Dec (i < n) → get_or zs i 0 ≤ 0
      go (yes q) = rw (get_or-replicate {A = ℕ} n i 0 0 q) (le_refl 0)
      go (no q) = rw (get_or-eq_default zs 0 {n = i} (omega (arith, zl))) (le_refl 0)

-- a turn of the loop that fills the slots
pub slots-more : (f : ℕ → ℕ) (n : ℕ) (t t' : List ℕ) (i v : ℕ) → Tree n t → i < n → v ≡ f i → take i (drop n t) ≡ tab f i → drop n t' ≡ set (drop n t) i v → take (i + 1) (drop n t') ≡ tab f (i + 1)
slots-more f n t t' i v b h e k d = rw d (tab-more f (drop n t) i v (omega (arith, slots_length n t b)) e k)
