-- The work area is made ready:
--     deg-le, deg-is     what is stored as a node's degree
--     slot_next     a turn of the loop over the slots
--     all-kept, all_laid, all-low, all-zero, all_told     the three steps together
-- Assumes nothing.
use mathlib.Core.Path.{◌≡◌, sym, ap, ◌∙◌}
use mathlib.Core.Bool.{cond}
use mathlib.Core.List.{List, []}
use Prim.Native.Nat.{ℕ, ◌+◌, ◌-◌, ◌*◌, ◌<◌, ◌≤◌}
use native.Mathlib.Omega.{arith}
use lib.Dec.{eqb}
use lib.ListN.{length, get_or, set, take, drop, replicate}
use Rattle.words.specs.Part.{part}
use Rattle.words.proofs.PartLaws.{part_at}
use Rattle.tree.specs.Tree.{Tree, Low}
use Rattle.order.specs.Area.{Order}
use Rattle.order.specs.Graph.{start, judge, run, tab, parents}
use Rattle.order.specs.Area.{tree_in, view, off_in, edges_in, Laid, Beside, Told}
use Rattle.order.proofs.RunLaws.{parents-length}
use Rattle.order.proofs.StartLaws.{begun, begun-slots, begun-zero, slots-more}
use Rattle.order.proofs.StoreLaws.{kept_at, drop-further}
use Rattle.order.proofs.AreaLoop.{laid_kept, off-kept, edges-kept}

-- what is stored as node i's degree
module _ (n m i : ℕ) (w₀ w : List ℕ) (la : Laid n m w₀) (h : i < n) (e : drop n w ≡ drop n w₀) where
  off_at : (k : ℕ) → k < 2 * n + 1 → get_or w (5 * n + k) 0 ≡ get_or (off_in n w₀) k 0
  off_at k l = kept_at n w w₀ (5 * n + k) e (omega arith) ∙ sym (part_at w₀ (5 * n) (2 * n + 1) k l)

  at_one : get_or w (5 * n + 2 * i + 1) 0 ≡ get_or (off_in n w₀) (2 * i + 1) 0
  at_one = ap (λ (j : ℕ). get_or w j 0) s ∙ off_at (2 * i + 1) (omega arith)
    where
      s : 5 * n + 2 * i + 1 ≡ 5 * n + (2 * i + 1)
      s = omega arith

  at_zero : get_or w (5 * n + 2 * i) 0 ≡ get_or (off_in n w₀) (2 * i) 0
  at_zero = off_at (2 * i) (omega arith)

  pub deg-le : get_or w (5 * n + 2 * i) 0 ≤ get_or w (5 * n + 2 * i + 1) 0
  deg-le = omega (arith, at_one, at_zero, la.graph.up (2 * i) (omega arith))

  pub deg-is : get_or w (5 * n + 2 * i + 1) 0 - get_or w (5 * n + 2 * i) 0 ≡ length (parents (off_in n w₀) (edges_in n m w₀) i)
  deg-is = rw (at_one, at_zero) (parents-length n i (off_in n w₀) (edges_in n m w₀) la.graph)

-- the degree that is read
pub deg-read : (n i : ℕ) (w₀ w : List ℕ) → Beside n w₀ w → i < n → get_or w i 0 ≡ get_or (part w₀ 0 n) i 0
deg-read n i w₀ w b h = sym (part_at w 0 n i h ∙ ap (λ (j : ℕ). get_or w j 0) z) ∙ ap (λ (l : List ℕ). get_or l i 0) b.degs
  where
    z : 0 + i ≡ i
    z = omega arith

-- the slots of a list of degrees
abbrev pub slots_of : ℕ → List ℕ → ℕ → List ℕ
slots_of n l k = tab (λ i. cond (eqb (get_or l i 0) 0) i n) k

pub slot_next : (n i v : ℕ) (w₀ w w' : List ℕ) → Beside n w₀ w → Tree n (tree_in n w) → i < n → v ≡ cond (eqb (get_or w i 0) 0) i n → take i (drop n (tree_in n w)) ≡ slots_of n (part w₀ 0 n) i → drop n (tree_in n w') ≡ set (drop n (tree_in n w)) i v
    → take (i + 1) (drop n (tree_in n w')) ≡ slots_of n (part w₀ 0 n) (i + 1)
slot_next n i v w₀ w w' b t h e k d = slots-more (λ i. cond (eqb (get_or (part w₀ 0 n) i 0) 0) i n) n (tree_in n w) (tree_in n w') i v t h (rw (deg-read n i w₀ w b h) at e) k d

-- the area at the start of the loop
module _ (n m : ℕ) (w₀ w : List ℕ) (eg : part w 0 n ≡ tab (λ i. length (parents (off_in n w₀) (edges_in n m w₀) i)) n) (ep : part w n n ≡ replicate n 0) (er : drop n (tree_in n w) ≡ slots_of n (part w 0 n) n) where
  pub start-view : view n w ≡ start n (off_in n w₀) (edges_in n m w₀)
  start-view = begun n (off_in n w₀) (edges_in n m w₀) (part w 0 n) (part w n n) (tree_in n w) eg ep er

  pub start-low : Low n (drop n (tree_in n w))
  start-low = begun-slots n (off_in n w₀) (edges_in n m w₀) (part w 0 n) (part w n n) (tree_in n w) eg ep er

  pub start-zero : Low 0 (part w n n)
  start-zero = begun-zero n (off_in n w₀) (edges_in n m w₀) (part w 0 n) (part w n n) (tree_in n w) eg ep er

-- the three steps together
module _ (n m : ℕ) (w w₁ w₂ w₃ : List ℕ) (la : Laid n m w)
    (s₁ : length w₁ ≡ length w) (a : part w₁ 0 n ≡ tab (λ i. length (parents (off_in n w) (edges_in n m w) i)) n) (d₁ : drop n w₁ ≡ drop n w)
    (s₂ : length w₂ ≡ length w₁) (b : part w₂ n n ≡ replicate n 0) (c : part w₂ 0 n ≡ part w₁ 0 n) (d₂ : drop (2 * n) w₂ ≡ drop (2 * n) w₁)
    (s₃ : length w₃ ≡ length w₂) (r : drop n (tree_in n w₃) ≡ slots_of n (part w₂ 0 n) n) (be : Beside n w₂ w₃) where
  pub all-kept : drop (5 * n) w₃ ≡ drop (5 * n) w
  all-kept = drop-further (5 * n) (4 * n) w₃ w₂ (omega arith) be.rest ∙ drop-further (5 * n) (2 * n) w₂ w₁ (omega arith) d₂ ∙ drop-further (5 * n) n w₁ w (omega arith) d₁

  pub all_laid : Laid n m w₃
  all_laid = laid_kept n m w w₃ all-kept (s₃ ∙ s₂ ∙ s₁) la

  degs₃ : part w₃ 0 n ≡ tab (λ i. length (parents (off_in n w) (edges_in n m w) i)) n
  degs₃ = be.degs ∙ c ∙ a

  deps₃ : part w₃ n n ≡ replicate n 0
  deps₃ = be.deps ∙ b

  slots₃ : drop n (tree_in n w₃) ≡ slots_of n (part w₃ 0 n) n
  slots₃ = r ∙ ap (λ (l : List ℕ). slots_of n l n) (sym be.degs)

  pub all-low : Low n (drop n (tree_in n w₃))
  all-low = start-low n m w w₃ degs₃ deps₃ slots₃

  pub all-zero : Low 0 (part w₃ n n)
  all-zero = start-zero n m w w₃ degs₃ deps₃ slots₃

  pub all_told : (lim : ℕ) (q : Order) (o : List ℕ) → Told (run n (off_in n w₃) (edges_in n m w₃) lim n [] (view n w₃)) q o → Told (judge n (off_in n w) (edges_in n m w) lim) q o
  all_told lim q o t = rw (start-view n m w w₃ degs₃ deps₃ slots₃, off-kept n m w w₃ all-kept, edges-kept n m w w₃ all-kept) at t
