-- The order of a graph's nodes, in the shapes that a loop over them has:
--     reached-ready, reached-waits, turn-deep, turn-next, turn-none     one child, and one turn of a visit
--     low-set, slice-nodes, visit-low     bounds that a visit keeps
--     run-cycle, run-deep, run-next, Going, going_end, going-cycle, going-deep, going_next     one turn of the run: what is left to do gives the whole answer
--     seen-deep, seen-on, ends, parents-length, slots_length     what the code reads
-- Assumes nothing.
use mathlib.Core.Path.{◌≡◌, refl, sym, ap, ◌∙◌}
use mathlib.Core.Bool.{Bool, true, false, cond}
use mathlib.Core.List.{List, [], ◌∷◌, ◌++◌}
use Prim.Native.Nat.{ℕ, zero, suc, ◌+◌, ◌-◌, ◌*◌, ◌<◌, ◌≤◌, max}
use native.Mathlib.Numerals.{add-one}
use native.Mathlib.Omega.{arith}
use borrow.Author.Tests.{eq-eqb, ne_eqb, lt-ltb, le-ltb}
use lib.Dec.{ltb, eqb}
use lib.ListN.{length, get_or, set, take, drop, length-set, length-drop}
use lib.Seq.{slice, slice-cons, slice_empty, length-slice, get_or-take, get_or-drop, take-suc-set, take_all}
use native.Mathlib.Nat.{le_refl, le_antisymm, sub_self}
use Rattle.lists.proofs.Cases.{one_left}
use Rattle.tree.specs.Tree.{least, Low, Tree}
use Rattle.std.specs.Prelude.{Result, Ok, Err}
use Rattle.order.specs.declared.TooDeep.{TooDeep}
use Rattle.order.specs.Graph.{seen, St, st, Nodes, Graph, touch, Went, on, deep, visit_all, parents, children, unready, run}
use Rattle.rules.specs.Order.{in_order, too_deep, cyclic}

pub st-eq : {a a' b b' c c' : List ℕ} → a ≡ a' → b ≡ b' → c ≡ c' → ◌≡◌ {A = St} (record { deg = a; dep = b; rdy = c }) (record { deg = a'; dep = b'; rdy = c' })
st-eq p q r = λ i. record { deg = p i; dep = q i; rdy = r i }

module _ (n c e : ℕ) (deg dep tree : List ℕ) (g : ℕ) (is : g ≡ get_or deg c 0 - 1) where
  -- c waits for no parent any more
  pub reached-ready : (tree' : List ℕ) → g ≡ 0 → drop n tree' ≡ set (drop n tree) c c → st n (set deg c g) (set dep c e) tree' ≡ touch c e (st n deg dep tree)
  reached-ready tree' z h = st-eq (ap (λ (x : ℕ). set deg c x) is) refl (rw (eq-eqb (get_or deg c 0 - 1) 0 (sym is ∙ z)) h)

  pub reached-waits : (g ≡ 0 → ⊥) → st n (set deg c g) (set dep c e) tree ≡ touch c e (st n deg dep tree)
  reached-waits z = st-eq (ap (λ (x : ℕ). set deg c x) is) refl (rw (ne_eqb (get_or deg c 0 - 1) 0 (λ p. z (is ∙ p))) refl)

module _ (d lim c : ℕ) (cs : List ℕ) (s : St) (e : ℕ) (is : e ≡ max (get_or s.dep c 0) (d + 1)) where
  visit-deep : lim < e → visit_all d lim (c ∷ cs) s ≡ deep e
  unfolding visit_all
  visit-deep h = rw (← is, lt-ltb lim e h)

  visit-on : e ≤ lim → visit_all d lim (c ∷ cs) s ≡ visit_all d lim cs (touch c e s)
  unfolding visit_all
  visit-on h = rw (← is, le-ltb lim e h)

module _ (d lim j to : ℕ) (edges : List ℕ) (h : j < to) (k : to ≤ length edges) (s : St) (e : ℕ) (is : e ≡ max (get_or s.dep (get_or edges j 0) 0) (d + 1)) where
  pub turn-deep : lim < e → visit_all d lim (slice j to edges) s ≡ deep e
  turn-deep q = rw (slice-cons j to edges 0 h k) (visit-deep d lim (get_or edges j 0) (slice (suc j) to edges) s e is q)

  pub turn_on : e ≤ lim → visit_all d lim (slice j to edges) s ≡ visit_all d lim (slice (j + 1) to edges) (touch (get_or edges j 0) e s)
  turn_on q = rw (add-one, slice-cons j to edges 0 h k) (visit-on d lim (get_or edges j 0) (slice (suc j) to edges) s e is q)

pub turn-none : (d lim j to : ℕ) (edges : List ℕ) (s : St) → j ≡ to → visit_all d lim (slice j to edges) s ≡ on s
unfolding visit_all
turn-none d lim j to edges s e = rw (e, slice_empty to edges)

-- the same, in the form that the code's turn has it: x is the child, s' the state that the code left
pub turn-next : (d lim j to : ℕ) (edges : List ℕ) → j < to → to ≤ length edges → (s s' : St) (x e : ℕ) → x ≡ get_or edges j 0 → e ≡ max (get_or s.dep x 0) (d + 1) → e ≤ lim → s' ≡ touch x e s
    → visit_all d lim (slice j to edges) s ≡ visit_all d lim (slice (j + 1) to edges) s'
turn-next d lim j to edges h k s s' x e p q l r =
    turn_on d lim j to edges h k s e (rw p at q) l ∙ ap (λ (y : St). visit_all d lim (slice (j + 1) to edges) y) (sym (rw p at r))

-- ---- bounds that a visit keeps

pub low-set : (n : ℕ) (l : List ℕ) (i v : ℕ) → Low n l → v ≤ n → Low n (set l i v)
low-set n [] i v h k j = h j
low-set n (x ∷ l) zero v h k zero = k
low-set n (x ∷ l) zero v h k (suc j) = h (suc j)
low-set n (x ∷ l) (suc i) v h k zero = h zero
low-set n (x ∷ l) (suc i) v h k (suc j) = low-set n l i v (λ m. h (suc m)) k j

pub slice-nodes : (n f t : ℕ) (l : List ℕ) → Nodes n l → t ≤ length l → Nodes n (slice f t l)
slice-nodes n f t l h k j q =
    let z : length (slice f t l) ≡ t - f = length-slice f t l k in
    rw (get_or-drop f (take t l) j 0, get_or-take t l (f + j) 0 (omega arith)) (h (f + j) (omega arith))

touch-rdy : (n c e : ℕ) (s : St) → c < n → Low n s.rdy → Low n (touch c e s).rdy
touch-rdy n c e s h low = go (eqb (get_or s.deg c 0 - 1) 0)
  where
    go : (b : Bool) → Low n (cond b (set s.rdy c c) s.rdy)
    go true = low-set n s.rdy c c low (omega arith)
    go false = low

pub visit-low : (d lim n b : ℕ) (cs : List ℕ) (s s' : St) → Nodes n cs → d + 1 ≤ b → Low n s.rdy → Low b s.dep → visit_all d lim cs s ≡ on s' → Low n s'.rdy × Low b s'.dep
unfolding visit_all
visit-low d lim n b [] s s' ns k lr ld h = let e : s ≡ s' = cc in (rw e at lr, rw e at ld)
visit-low d lim n b (c ∷ cs) s s' ns k lr ld h =
    go (λ e l q. visit-low d lim n b cs (touch c e s) s' (λ j l. ns (suc j) (omega arith)) k (touch-rdy n c e s (ns 0 (omega arith)) lr) (low-set b s.dep c e ld l) q) (ltb lim (max (get_or s.dep c 0) (d + 1))) h
  where
    go : ((e : ℕ) → e ≤ b → visit_all d lim cs (touch c e s) ≡ on s' → Low n s'.rdy × Low b s'.dep) → (t : Bool) → cond t (deep (max (get_or s.dep c 0) (d + 1))) (visit_all d lim cs (touch c (max (get_or s.dep c 0) (d + 1)) s)) ≡ on s' → Low n s'.rdy × Low b s'.dep
    go ih true q = absurd (let z : ◌≡◌ {A = ℕ} 0 1 = cc in omega arith)
    go ih false q = ih _ (omega (arith, ld c)) q

-- ---- the run

module _ (n : ℕ) (off edges : List ℕ) (lim f : ℕ) (xs : List ℕ) (s : St) (i : ℕ) (is : i ≡ least s.rdy n) where
  pub run-cycle : n ≤ i → run n off edges lim (suc f) xs s ≡ cyclic
  unfolding run
  run-cycle h = rw (← is, le-ltb i n h)

  pub run-deep : (e : ℕ) → i < n → visit_all (get_or s.dep i 0) lim (children off edges i) (unready n i s) ≡ deep e → run n off edges lim (suc f) xs s ≡ too_deep e
  unfolding run
  run-deep e h q = rw (← is, lt-ltb i n h, q)

  pub run-next : (s' : St) → i < n → visit_all (get_or s.dep i 0) lim (children off edges i) (unready n i s) ≡ on s' → run n off edges lim (suc f) xs s ≡ run n off edges lim f (xs ++ (i ∷ [])) s'
  unfolding run
  run-next s' h q = rw (← is, lt-ltb i n h, q)

pub ends : (n i : ℕ) (off edges : List ℕ) (from to : ℕ) → Graph n off edges → i < n → from ≡ get_or off (2 * i + 1) 0 → to ≡ get_or off (2 * i + 2) 0 → (from ≤ to) × (to ≤ length edges)
ends n i off edges from to g h p q =
    let e : get_or off (2 * i + 1 + 1) 0 ≡ get_or off (2 * i + 2) 0 = ap (λ (j : ℕ). get_or off j 0) (two-more (2 * i)) in
    (omega (arith, g.up (2 * i + 1) (omega arith)), omega (arith, g.inside (2 * i + 2)))
  where
    two-more : (x : ℕ) → x + 1 + 1 ≡ x + 2
    two-more x = omega arith

-- ---- the loop: k nodes were taken, and what is left to do gives the whole answer

pub record Going (n : ℕ) (off edges : List ℕ) (lim : ℕ) (s₀ : St) (deg dep tree order : List ℕ) (k : ℕ) : Type 0 where
  pub le : k ≤ n
  pub deg-n : length deg ≡ n
  pub dep-n : length dep ≡ n
  pub tree-n : Tree n tree
  pub slots : Low n (drop n tree)
  pub shallow : Low k dep
  pub size : length order ≡ n
  pub same : run n off edges lim n [] s₀ ≡ run n off edges lim (n - k) (take k order) (st n deg dep tree)

low-more : (k : ℕ) (l : List ℕ) → Low k l → Low (k + 1) l
low-more k l h j = omega (arith, h j)

module _ (n : ℕ) (off edges : List ℕ) (lim : ℕ) (s₀ : St) (deg dep tree order : List ℕ) (k : ℕ) (g : Going n off edges lim s₀ deg dep tree order k) where
  pub going_end : n ≤ k → run n off edges lim n [] s₀ ≡ in_order order
  unfolding run
  going_end h =
      let e : k ≡ n = le_antisymm g.le h in
      let all : take n order ≡ order = take_all n order (omega (arith, g.size)) in
      rw (e, sub_self, all) at g.same

  module _ (h : k < n) (i : ℕ) (is : i ≡ least (drop n tree) n) where
    pub going-cycle : n ≤ i → run n off edges lim n [] s₀ ≡ cyclic
    going-cycle q = g.same ∙ rw (one_left n k h) (run-cycle n off edges lim (n - (k + 1)) (take k order) (st n deg dep tree) i is q)

    module _ (q : i < n) where
      pub going-deep : (e : ℕ) → visit_all (get_or dep i 0) lim (children off edges i) (unready n i (st n deg dep tree)) ≡ deep e → run n off edges lim n [] s₀ ≡ too_deep e
      going-deep e v = g.same ∙ rw (one_left n k h) (run-deep n off edges lim (n - (k + 1)) (take k order) (st n deg dep tree) i is e q v)

      -- the word x that is stored is i
      pub going_next : Graph n off edges → (deg' dep' tree' : List ℕ)
          → visit_all (get_or dep i 0) lim (children off edges i) (unready n i (st n deg dep tree)) ≡ on (st n deg' dep' tree')
          → length deg' ≡ length deg → length dep' ≡ length dep → Tree n tree' → (x : ℕ) → i ≡ x → Going n off edges lim s₀ deg' dep' tree' (set order k x) (k + 1)
      going_next gr deg' dep' tree' v ld lp t x ix =
          let low = visit-low (get_or dep i 0) lim n (k + 1) (children off edges i) (unready n i (st n deg dep tree)) (st n deg' dep' tree')
          (slice-nodes n (get_or off (2 * i + 1) 0) (get_or off (2 * i + 2) 0) edges gr.nodes (gr.inside (2 * i + 2))) (omega (arith, g.shallow i)) (low-set n (drop n tree) i n g.slots (le_refl n)) (low-more k dep g.shallow) v in
          let more : take (k + 1) (set order k x) ≡ take k order ++ (i ∷ []) = rw (← ix, add-one) (take-suc-set order k i (omega (arith, g.size))) in
          record {
            le = omega arith;
            deg-n = ld ∙ g.deg-n;
            dep-n = lp ∙ g.dep-n;
            tree-n = t;
            slots = low.0;
            shallow = low.1;
            size = length-set order k x ∙ g.size;
            same = g.same ∙ rw (one_left n k h) (run-next n off edges lim (n - (k + 1)) (take k order) (st n deg dep tree) i is (st n deg' dep' tree') q v)
                ∙ ap (λ (ys : List ℕ). run n off edges lim (n - (k + 1)) ys (st n deg' dep' tree')) (sym more);
          }

pub seen-deep : (v : Went) (r : Result (Unit {0}) TooDeep) (s : St) (e : TooDeep) → v ≡ seen r s → r ≡ Err e → v ≡ deep e.0
seen-deep v r s e h q = rw q at h

pub seen-on : (v : Went) (r : Result (Unit {0}) TooDeep) (s : St) → v ≡ seen r s → r ≡ Ok tt → v ≡ on s
seen-on v r s h q = rw q at h

-- node i's parents
pub parents-length : (n i : ℕ) (off edges : List ℕ) → Graph n off edges → get_or off (2 * i + 1) 0 - get_or off (2 * i) 0 ≡ length (parents off edges i)
parents-length n i off edges g = sym (length-slice (get_or off (2 * i) 0) (get_or off (2 * i + 1) 0) edges (g.inside (2 * i + 1)))

pub slots_length : (n : ℕ) (t : List ℕ) → Tree n t → length (drop n t) ≡ n
slots_length n t b = omega (arith, length-drop n t, b.size)
