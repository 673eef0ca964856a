-- What was taken are nodes: `run-nodes`, by induction on how many are still to be taken.
-- Assumes nothing.
use borrow.Author.Tests.{le-ltb, lt-ltb}
use mathlib.Core.List.{List, [], ◌++◌, ◌∷◌}
use mathlib.Core.Logic.{inl, inr, ◌⊎◌}
use mathlib.Core.Path.{◌≡◌}
use Prim.Native.Nat.{suc, zero, ℕ, ◌<◌, ◌≤◌}
use native.Mathlib.Decide.{dec_lt}
use native.Mathlib.Omega.{arith}
use lib.ListN.{get_or-append, get_or, length, length-append}
use lib.Seq.{get_or-append_seam}
use Rattle.order.specs.Graph.{Nodes, St, Went, after, children, deep, on, run, unready, visit_all}
use Rattle.rules.specs.Order.{Ordered, cyclic, in_order}
use Rattle.tree.specs.Tree.{least}
use Rattle.lists.proofs.Cases.{lt-or-le}

nodes-more : (n : ℕ) (xs : List ℕ) (i : ℕ) → Nodes n xs → i < n → Nodes n (xs ++ (i ∷ []))
nodes-more n xs i h q k l = go (dec_lt k (length xs))
  where
    go : Dec (k < length xs) → get_or (xs ++ (i ∷ [])) k 0 < n
    go (yes p) = rw (get_or-append xs (i ∷ []) 0 k p) (h k p)
    go (no p) =
        let e : k ≡ length xs = omega (arith, length-append xs (i ∷ [])) in
        rw (e, get_or-append_seam xs i [] 0) q

after_on : (v : Went) (k : St → Ordered) (ys : List ℕ) → after v k ≡ in_order ys → (t : St) × (k t ≡ in_order ys)
after_on (on s) k ys e = (s, e)
after_on (deep x) k ys e = absurd (let z : ◌≡◌ {A = ℕ} 0 1 = cc in omega arith)

module _ (n : ℕ) (off edges : List ℕ) (lim : ℕ) where
  pub run-nodes : (f : ℕ) (xs : List ℕ) (s : St) (ys : List ℕ) → Nodes n xs → run n off edges lim f xs s ≡ in_order ys → Nodes n ys
  unfolding run
  run-nodes zero xs s ys h e = let q : xs ≡ ys = cc in rw q at h
  run-nodes (suc f) xs s ys h e =
      go (λ (l : least s.rdy n < n) t r. run-nodes f (xs ++ (least s.rdy n ∷ [])) t ys (nodes-more n xs (least s.rdy n) h l) r) (lt-or-le (least s.rdy n) n)
    where
      go : (least s.rdy n < n → (t : St) → run n off edges lim f (xs ++ (least s.rdy n ∷ [])) t ≡ in_order ys → Nodes n ys) → (least s.rdy n < n) ⊎ (n ≤ least s.rdy n) → Nodes n ys
      go ih (inl l) =
          let r = after_on (visit_all (get_or s.dep (least s.rdy n) 0) lim (children off edges (least s.rdy n)) (unready n (least s.rdy n) s)) (λ t. run n off edges lim f (xs ++ (least s.rdy n ∷ [])) t) ys
          (rw (lt-ltb (least s.rdy n) n l) at e) in
          ih l r.0 r.1
      go ih (inr l) = absurd (let q : cyclic ≡ in_order ys = rw (le-ltb (least s.rdy n) n l) at e in let z : ◌≡◌ {A = ℕ} 0 1 = cc in omega arith)
