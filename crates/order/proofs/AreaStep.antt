-- One node is taken, over the work area:
--     waits, ready     a child after the stores of its degree, its depth, and its slot
--     depth-read, deep-at     one turn of a visit
--     unreadied, ends_at, nodes-at, visited-at     the slot of the node, and its children, which lie in the same area
-- Assumes nothing.
use mathlib.Core.Path.{◌≡◌, refl, sym, ap, ◌∙◌}
use mathlib.Core.List.{List}
use Prim.Native.Nat.{ℕ, ◌+◌, ◌-◌, ◌*◌, ◌<◌, ◌≤◌, max}
use native.Mathlib.Omega.{arith}
use lib.ListN.{length, get_or, set, drop, length-set}
use lib.Seq.{slice, drop-set-lt, get_or-set_other}
use Rattle.words.specs.Part.{part}
use Rattle.words.proofs.PartLaws.{part_length, part_at}
use Rattle.tree.specs.Tree.{Tree}
use Rattle.order.specs.Graph.{touch, unready, children, Went, visit_all, deep}
use Rattle.order.specs.Area.{tree_in, view, off_in, edges_in, Laid, Beside}
use Rattle.order.proofs.RunLaws.{st-eq, reached-ready, reached-waits, turn-deep, ends}
use Rattle.order.proofs.StoreLaws.{set-in, set_before, set_after, kept_at, far-slice}

module _ (c e n : ℕ) (w : List ℕ) (lt : c < n) (l : 4 * n ≤ length w) (t : Tree n (tree_in n w)) (g : ℕ) (is : g ≡ get_or (set w (n + c) e) c 0 - 1) where
  -- the words after both stores
  abbrev pub w₂ : List ℕ
  w₂ = set (set w (n + c) e) c g

  pub size₂ : length w₂ ≡ length w
  size₂ = length-set (set w (n + c) e) c g ∙ length-set w (n + c) e

  deg₂ : part w₂ 0 n ≡ set (part w 0 n) c g
  deg₂ = set-in (set w (n + c) e) 0 n c c g (omega arith) lt ∙ ap (λ (x : List ℕ). set x c g) (set_after w 0 n (n + c) e (omega arith))

  dep₂ : part w₂ n n ≡ set (part w n n) c e
  dep₂ = set_before (set w (n + c) e) n n c g lt ∙ set-in w n n (n + c) c e refl lt

  pub tree₂ : tree_in n w₂ ≡ tree_in n w
  tree₂ = set_before (set w (n + c) e) (2 * n) (2 * n) c g (omega arith) ∙ set_before w (2 * n) (2 * n) (n + c) e (omega arith)

  rest₂ : drop (4 * n) w₂ ≡ drop (4 * n) w
  rest₂ = drop-set-lt (4 * n) (set w (n + c) e) c g (omega arith) ∙ drop-set-lt (4 * n) w (n + c) e (omega arith)

  got : g ≡ get_or (part w 0 n) c 0 - 1
  got =
      let x : get_or (set w (n + c) e) c 0 ≡ get_or w c 0 = get_or-set_other w (n + c) c e 0 (omega arith) in
      let y : get_or (part w 0 n) c 0 ≡ get_or w (0 + c) 0 = part_at w 0 n c lt in
      let z : get_or w (0 + c) 0 ≡ get_or w c 0 = ap (λ (j : ℕ). get_or w j 0) zc in
      omega arith
    where
      zc : 0 + c ≡ c
      zc = omega arith

  pub waits : (g ≡ 0 → ⊥) → (view n w₂ ≡ touch c e (view n w)) × Tree n (tree_in n w₂) × (drop (4 * n) w₂ ≡ drop (4 * n) w)
  waits z = (st-eq deg₂ dep₂ (ap (drop n) tree₂) ∙ reached-waits n c e (part w 0 n) (part w n n) (tree_in n w) g got z, rw tree₂ t, rest₂)

  -- the slot was set, too
  pub ready : (w₃ : List ℕ) → g ≡ 0 → drop n (tree_in n w₃) ≡ set (drop n (tree_in n w₂)) c c → Tree n (tree_in n w₃) → Beside n w₂ w₃
      → (view n w₃ ≡ touch c e (view n w)) × Tree n (tree_in n w₃) × (drop (4 * n) w₃ ≡ drop (4 * n) w)
  ready w₃ z d t₃ b = (
    st-eq (b.degs ∙ deg₂) (b.deps ∙ dep₂) refl
        ∙ reached-ready n c e (part w 0 n) (part w n n) (tree_in n w) g got (tree_in n w₃) z (rw tree₂ at d),
    t₃,
    b.rest ∙ rest₂,
  )

-- the depth that was read is the state's
pub depth-read : (n x d e : ℕ) (w : List ℕ) → x < n → e ≡ max (get_or w (n + x) 0) (d + 1) → e ≡ max (get_or (part w n n) x 0) (d + 1)
depth-read n x d e w h q = rw (part_at w n n x h) q

pub deep-at : (n d lim j to : ℕ) (w₀ w : List ℕ) → j < to → to ≤ length w₀ → (x e : ℕ) → x ≡ get_or w₀ j 0 → e ≡ max (get_or (part w n n) x 0) (d + 1) → lim < e → visit_all d lim (slice j to w₀) (view n w) ≡ deep e
deep-at n d lim j to w₀ w h k x e p q l = turn-deep d lim j to w₀ h k (view n w) e (rw p at q) l

-- ---- a node is taken

pub unreadied : (i n : ℕ) (w w₁ : List ℕ) → drop n (tree_in n w₁) ≡ set (drop n (tree_in n w)) i n → Beside n w w₁ → view n w₁ ≡ unready n i (view n w)
unreadied i n w w₁ d b = st-eq b.degs b.deps d

-- what the code reads of the graph
module _ (n m i : ℕ) (w : List ℕ) (la : Laid n m w) (h : i < n) (from to : ℕ) (ef : from ≡ get_or w (5 * n + 2 * i + 1) 0) (et : to ≡ get_or w (5 * n + 2 * i + 2) 0) where
  from_is : from ≡ get_or (off_in n w) (2 * i + 1) 0
  from_is = ef ∙ sym (part_at w (5 * n) (2 * n + 1) (2 * i + 1) (omega arith) ∙ ap (λ (j : ℕ). get_or w j 0) e)
    where
      e : 5 * n + (2 * i + 1) ≡ 5 * n + 2 * i + 1
      e = omega arith

  to_is : to ≡ get_or (off_in n w) (2 * i + 2) 0
  to_is = et ∙ sym (part_at w (5 * n) (2 * n + 1) (2 * i + 2) (omega arith) ∙ ap (λ (j : ℕ). get_or w j 0) e)
    where
      e : 5 * n + (2 * i + 2) ≡ 5 * n + 2 * i + 2
      e = omega arith

  m-is : length (edges_in n m w) ≡ m
  m-is = part_length w (7 * n + 1) m la.room

  pub ends_at : (from ≤ to) × (to ≤ m)
  ends_at = let e = ends n i (off_in n w) (edges_in n m w) from to la.graph h from_is to_is in (e.0, omega (arith, e.1, m-is))

  pub nodes-at : (w₁ : List ℕ) → drop (4 * n) w₁ ≡ drop (4 * n) w → (j : ℕ) → 7 * n + 1 + from ≤ j → j < 7 * n + 1 + to → get_or w₁ j 0 < n
  nodes-at w₁ e j a b =
      let k : ℕ = j - (7 * n + 1) in
      let q : 7 * n + 1 + k ≡ j = omega arith in
      let y = ends_at in
      let g : get_or (edges_in n m w) k 0 ≡ get_or w j 0 = part_at w (7 * n + 1) m k (omega arith) ∙ ap (λ (z : ℕ). get_or w z 0) q in
      omega (arith, kept_at (4 * n) w₁ w j e (omega arith), la.graph.nodes k (omega (arith, m-is)))

  pub children-at : (w₁ : List ℕ) → length w₁ ≡ length w → drop (4 * n) w₁ ≡ drop (4 * n) w → slice (7 * n + 1 + from) (7 * n + 1 + to) w₁ ≡ children (off_in n w) (edges_in n m w) i
  children-at w₁ el e =
      let y = ends_at in
      far-slice (4 * n) (7 * n + 1) m from to w₁ w el e (omega arith) y.0 y.1 la.room ∙ rw (from_is, to_is) refl

  pub visited-at : (lim : ℕ) (w₁ : List ℕ) (v : Went) → length w₁ ≡ length w → drop (4 * n) w₁ ≡ drop (4 * n) w → view n w₁ ≡ unready n i (view n w)
      → visit_all (get_or w (n + i) 0) lim (slice (7 * n + 1 + from) (7 * n + 1 + to) w₁) (view n w₁) ≡ v → visit_all (get_or (part w n n) i 0) lim (children (off_in n w) (edges_in n m w) i) (unready n i (view n w)) ≡ v
  visited-at lim w₁ v el e ev q = rw (part_at w n n i h, ← children-at w₁ el e, ← ev) q
