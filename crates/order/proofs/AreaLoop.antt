-- The loop over the nodes, over the work area: k nodes were taken (GoingOn), the next one (next-at), all of them (done_at), and the answers.
-- Assumes nothing.
use mathlib.Core.Path.{◌≡◌, refl, sym, ap, ◌∙◌}
use mathlib.Core.List.{List, []}
use Prim.Native.Nat.{ℕ, ◌+◌, ◌*◌, ◌<◌, ◌≤◌}
use native.Mathlib.Omega.{arith}
use lib.ListN.{length, get_or, set, take, drop, length-set}
use lib.Seq.{drop-set-lt}
use Rattle.words.specs.Part.{part}
use Rattle.words.proofs.PartLaws.{part_length}
use Rattle.rules.specs.Order.{in_order, too_deep, cyclic}
use Rattle.tree.specs.Tree.{Tree, least}
use Rattle.order.specs.Graph.{St, unready, children, Went, visit_all, on, run}
use Rattle.order.specs.Area.{Whole, Depth, Cycle}
use Rattle.order.specs.Area.{tree_in, view, order_in, off_in, edges_in, Laid, Told}
use Rattle.order.proofs.RunLaws.{Going, going_next, going_end}
use Rattle.order.proofs.StoreLaws.{set-in, set_after, drop-further}

-- k nodes were taken
pub record GoingOn (n m lim : ℕ) (w₀ w : List ℕ) (k : ℕ) : Type 0 where
  pub size : length w ≡ length w₀
  pub kept : drop (5 * n) w ≡ drop (5 * n) w₀
  pub going : Going n (off_in n w₀) (edges_in n m w₀) lim (view n w₀) (part w 0 n) (part w n n) (tree_in n w) (order_in n w) k

module _ (n m : ℕ) (w₀ w : List ℕ) (kept : drop (5 * n) w ≡ drop (5 * n) w₀) where
  pub off-kept : off_in n w ≡ off_in n w₀
  off-kept = ap (take (2 * n + 1)) kept

  pub edges-kept : edges_in n m w ≡ edges_in n m w₀
  edges-kept = ap (take m) (drop-further (7 * n + 1) (5 * n) w w₀ (omega arith) kept)

  pub laid_kept : length w ≡ length w₀ → Laid n m w₀ → Laid n m w
  laid_kept e la = record { room = omega (arith, la.room); graph = rw (off-kept, edges-kept) la.graph }

module _ (n m lim : ℕ) (w₀ w : List ℕ) (k : ℕ) (la : Laid n m w₀) (g : GoingOn n m lim w₀ w k) where
  pub done_at : n ≤ k → run n (off_in n w₀) (edges_in n m w₀) lim n [] (view n w₀) ≡ in_order (order_in n w)
  done_at h = going_end n (off_in n w₀) (edges_in n m w₀) lim (view n w₀) (part w 0 n) (part w n n) (tree_in n w) (order_in n w) k g.going h

  module _ (h : k < n) (i : ℕ) (is : i ≡ least (drop n (tree_in n w)) n) (q : i < n) (w₁ : List ℕ) (x : ℕ) (ix : i ≡ x) (el : length w₁ ≡ length w) (e : drop (4 * n) w₁ ≡ drop (4 * n) w) where
    pub next-at : visit_all (get_or (part w n n) i 0) lim (children (off_in n w) (edges_in n m w) i) (unready n i (view n w)) ≡ on (view n w₁) → Tree n (tree_in n w₁) → GoingOn n m lim w₀ (set w₁ (4 * n + k) x) (k + 1)
    next-at v t =
        let l = la.room in
        let z = g.size in
        let a : part (set w₁ (4 * n + k) x) 0 n ≡ part w₁ 0 n = set_after w₁ 0 n (4 * n + k) x (omega arith) in
        let b : part (set w₁ (4 * n + k) x) n n ≡ part w₁ n n = set_after w₁ n n (4 * n + k) x (omega arith) in
        let c : tree_in n (set w₁ (4 * n + k) x) ≡ tree_in n w₁ = set_after w₁ (2 * n) (2 * n) (4 * n + k) x (omega arith) in
        let o : order_in n (set w₁ (4 * n + k) x) ≡ set (order_in n w) k x = set-in w₁ (4 * n) n (4 * n + k) k x refl h ∙ ap (λ (y : List ℕ). set (take n y) k x) e in
        record {
          size = length-set w₁ (4 * n + k) x ∙ el ∙ g.size;
          kept = drop-set-lt (5 * n) w₁ (4 * n + k) x (omega arith) ∙ drop-further (5 * n) (4 * n) w₁ w (omega arith) e ∙ g.kept;
          going = rw (a, b, c, o) (going_next n (off_in n w₀) (edges_in n m w₀) lim (view n w₀) (part w 0 n) (part w n n) (tree_in n w) (order_in n w) k g.going h i is q la.graph
              (part w₁ 0 n) (part w₁ n n) (tree_in n w₁) (rw (off-kept n m w₀ w g.kept, edges-kept n m w₀ w g.kept) at v)
              (part_length w₁ 0 n (omega arith) ∙ sym (part_length w 0 n (omega arith))) (part_length w₁ n n (omega arith) ∙ sym (part_length w n n (omega arith))) t x ix);
        }

-- the answers that end the loop early
pub told-cycle : (n m lim : ℕ) (w₀ o : List ℕ) → run n (off_in n w₀) (edges_in n m w₀) lim n [] (view n w₀) ≡ cyclic → Told (run n (off_in n w₀) (edges_in n m w₀) lim n [] (view n w₀)) Cycle o
told-cycle n m lim w₀ o e = rw e refl

pub told-deep : (n m lim : ℕ) (w₀ o : List ℕ) (x : ℕ) → run n (off_in n w₀) (edges_in n m w₀) lim n [] (view n w₀) ≡ too_deep x → Told (run n (off_in n w₀) (edges_in n m w₀) lim n [] (view n w₀)) (Depth x) o
told-deep n m lim w₀ o x e = rw e refl

pub told-done : (n m lim : ℕ) (w₀ o : List ℕ) → run n (off_in n w₀) (edges_in n m w₀) lim n [] (view n w₀) ≡ in_order o → Told (run n (off_in n w₀) (edges_in n m w₀) lim n [] (view n w₀)) Whole o
told-done n m lim w₀ o e = rw e (record { answer = refl; list = refl })

pub visit-kept : (n m lim i d : ℕ) (w₀ w : List ℕ) (s : St) (v : Went) → drop (5 * n) w ≡ drop (5 * n) w₀ → visit_all d lim (children (off_in n w) (edges_in n m w) i) s ≡ v → visit_all d lim (children (off_in n w₀) (edges_in n m w₀) i) s ≡ v
visit-kept n m lim i d w₀ w s v e h = rw (off-kept n m w₀ w e, edges-kept n m w₀ w e) at h
