-- The order by node number is the rule book's order by id. Node i of the graph is the segment at place i, whose ids ascend, and the children
-- of a node are those of its segment. A list of the rule book's nodes is alike a state (Alike) if each place says the same of its node.
--     alike-taken, alike-touched, pick_some, pick-none     one step of each side
--     visit-alike, run-alike     the children of a node, and the whole: by simulation
--     start-alike, judge-alike     from the start
-- Assumes nothing.
use borrow.Author.Tests.{eq-eqb, le-ltb, lt-ltb, ne_eqb}
use mathlib.Core.Bool.{Bool, cond, false, true}
use mathlib.Core.List.{List, [], map, map-append, ◌++◌, ◌∷◌}
use mathlib.Core.Logic.{inl, inr, ⊎_elim, ◌⊎◌}
use mathlib.Core.Option.{none, some}
use mathlib.Core.Path.{ap, refl, sym, ◌∙◌, ◌≡◌}
use Prim.Native.Nat.{max, suc, zero, ℕ, ◌*◌, ◌+◌, ◌-◌, ◌<◌, ◌≤◌}
use native.Mathlib.Decide.{ℕ_discrete}
use native.Mathlib.Omega.{arith}
use lib.Dec.{eqb, ltb}
use lib.ListN.{get_or-map, get_or, get_or-replicate, length, length-map, length-replicate, length-set, set}
use lib.Seq.{get_or-set_other, get_or-set_same}
use Rattle.order.specs.Graph.{Graph, Nodes, St, after, children, judge, parents, run, start, touch, unready, visit_all}
use Rattle.ordered.specs.Left.{named}
use Rattle.rules.specs.Model.{Segment, id_of, ids_of}
use Rattle.rules.specs.Order.{Node, Ordered, after_visit, depth_of, first_ready, node_of, order_from, taken, touched, touched_node, visit}
use Rattle.tree.specs.Tree.{least}
use Rattle.words.specs.Table.{Ascends}
use Rattle.lists.proofs.Cases.{lt-or-le}
use Rattle.order.proofs.RunLaws.{slice-nodes}
use Rattle.order.proofs.TabLaws.{get_or-tab, length-tab}
use Rattle.ordered.proofs.NodeLaws.{IdAt, bare, blank, depth-at, first-none, first_some, idle, taken_at, touched-at}
use Rattle.tree.proofs.TreeLaws.{Hit, least-hit, least-le}
use Rattle.rules.specs.Order as R
use Rattle.order.specs.Graph as G

module _ (n : ℕ) (ids : List ℕ) (kids : ℕ → List ℕ) where
  abbrev pub name_of : ℕ → ℕ
  name_of k = get_or ids k 0

  -- what the state says of node i
  abbrev pub node_in : St → ℕ → Node
  node_in s i = record { id = get_or ids i 0; waits = get_or s.deg i 0; depth = get_or s.dep i 0; ready = eqb (get_or s.rdy i 0) i; children = kids i }

  pub record Alike (nodes : List Node) (s : St) : Type 0 where
    pub size : length nodes ≡ n
    pub degs : length s.deg ≡ n
    pub deps : length s.dep ≡ n
    pub rdys : length s.rdy ≡ n
    pub slots : (i : ℕ) → i < n → (get_or s.rdy i 0 ≡ i) ⊎ (get_or s.rdy i 0 ≡ n)
    pub at : (i : ℕ) → i < n → get_or nodes i blank ≡ node_in s i

  module _ (up : (p q : ℕ) → p < q → q < n → get_or ids p 0 < get_or ids q 0) where
    -- the id of place i stands there first
    id-at : (nodes : List Node) (s : St) → Alike nodes s → (i : ℕ) → i < n → IdAt (get_or ids i 0) nodes i
    id-at nodes s a i h = record {
      inside = omega (arith, a.size);
      here = ap (λ (x : Node). x.id) (a.at i h);
      before = λ j q e. let z : get_or ids j 0 ≡ get_or ids i 0 = sym (ap (λ (x : Node). x.id) (a.at j (omega arith))) ∙ e in absurd (omega (arith, up j i q h));
    }

    depth-alike : (nodes : List Node) (s : St) → Alike nodes s → (i : ℕ) → i < n → depth_of (get_or ids i 0) nodes ≡ get_or s.dep i 0
    depth-alike nodes s a i h = depth-at (get_or ids i 0) nodes i (id-at nodes s a i h) ∙ ap (λ (x : Node). x.depth) (a.at i h)

    pub alike-taken : (nodes : List Node) (s : St) → Alike nodes s → (i : ℕ) → i < n → Alike (taken (get_or ids i 0) nodes) (unready n i s)
    alike-taken nodes s a i h =
        rw (taken_at (get_or ids i 0) nodes i (id-at nodes s a i h)) (record {
          size = length-set nodes i (idle (get_or nodes i blank)) ∙ a.size;
          degs = a.degs;
          deps = a.deps;
          rdys = length-set s.rdy i n ∙ a.rdys;
          slots = λ j q. slot j q (ℕ_discrete j i);
          at = λ j q. place j q (ℕ_discrete j i);
        })
      where
        slot : (j : ℕ) → j < n → Dec (j ≡ i) → (get_or (set s.rdy i n) j 0 ≡ j) ⊎ (get_or (set s.rdy i n) j 0 ≡ n)
        slot j q (yes e) = inr (rw e (get_or-set_same s.rdy i n 0 (omega (arith, a.rdys))))
        slot j q (no e) = rw (get_or-set_other s.rdy i j n 0 e) (a.slots j q)

        place : (j : ℕ) → j < n → Dec (j ≡ i) → get_or (set nodes i (idle (get_or nodes i blank))) j blank ≡ node_in (unready n i s) j
        place j q (yes e) =
            let z : eqb n i ≡ false = ne_eqb n i (omega arith) in
            rw (e, get_or-set_same nodes i (idle (get_or nodes i blank)) blank (omega (arith, a.size)), a.at i h, get_or-set_same s.rdy i n 0 (omega (arith, a.rdys)), z) refl
        place j q (no e) = rw (get_or-set_other nodes i j (idle (get_or nodes i blank)) blank e, get_or-set_other s.rdy i j n 0 e) (a.at j q)

    pub alike-touched : (nodes : List Node) (s : St) → Alike nodes s → (c e : ℕ) → c < n → Alike (touched (get_or ids c 0) e nodes) (touch c e s)
    alike-touched nodes s a c e h =
        rw (touched-at (get_or ids c 0) e nodes c (id-at nodes s a c h)) (record {
          size = length-set nodes c (touched_node e (get_or nodes c blank)) ∙ a.size;
          degs = length-set s.deg c (get_or s.deg c 0 - 1) ∙ a.degs;
          deps = length-set s.dep c e ∙ a.deps;
          rdys = len (eqb (get_or s.deg c 0 - 1) 0);
          slots = λ j q. slot j q (eqb (get_or s.deg c 0 - 1) 0) (ℕ_discrete j c);
          at = λ j q. place j q (ℕ_discrete j c);
        })
      where
        len : (b : Bool) → length (cond b (set s.rdy c c) s.rdy) ≡ n
        len true = length-set s.rdy c c ∙ a.rdys
        len false = a.rdys

        slot : (j : ℕ) → j < n → (b : Bool) → Dec (j ≡ c) → (get_or (cond b (set s.rdy c c) s.rdy) j 0 ≡ j) ⊎ (get_or (cond b (set s.rdy c c) s.rdy) j 0 ≡ n)
        slot j q true (yes p) = inl (rw p (get_or-set_same s.rdy c c 0 (omega (arith, a.rdys))))
        slot j q true (no p) = rw (get_or-set_other s.rdy c j c 0 p) (a.slots j q)
        slot j q false p = a.slots j q

        -- ready at c, and elsewhere
        here : (b : Bool) → cond b true (eqb (get_or s.rdy c 0) c) ≡ eqb (get_or (cond b (set s.rdy c c) s.rdy) c 0) c
        here true = rw (get_or-set_same s.rdy c c 0 (omega (arith, a.rdys))) (sym (eq-eqb c c refl))
        here false = refl

        there : (j : ℕ) → (j ≡ c → ⊥) → (b : Bool) → get_or (cond b (set s.rdy c c) s.rdy) j 0 ≡ get_or s.rdy j 0
        there j p true = get_or-set_other s.rdy c j c 0 p
        there j p false = refl

        place : (j : ℕ) → j < n → Dec (j ≡ c) → get_or (set nodes c (touched_node e (get_or nodes c blank))) j blank ≡ node_in (touch c e s) j
        place j q (yes p) =
            rw (p, get_or-set_same nodes c (touched_node e (get_or nodes c blank)) blank (omega (arith, a.size)), a.at c h, get_or-set_same s.deg c (get_or s.deg c 0 - 1) 0 (omega (arith, a.degs)), get_or-set_same s.dep c e 0 (omega (arith, a.deps)))
            (ap (λ (b : Bool). record { id = get_or ids c 0; waits = get_or s.deg c 0 - 1; depth = e; ready = b; children = kids c }) (here (eqb (get_or s.deg c 0 - 1) 0)))
        place j q (no p) =
            rw (get_or-set_other nodes c j (touched_node e (get_or nodes c blank)) blank p, get_or-set_other s.deg c j (get_or s.deg c 0 - 1) 0 p, get_or-set_other s.dep c j e 0 p, there j p (eqb (get_or s.deg c 0 - 1) 0)) (a.at j q)

    -- ---- which is taken

    ready_at : (nodes : List Node) (s : St) → Alike nodes s → (j : ℕ) → j < n → (get_or nodes j blank).ready ≡ eqb (get_or s.rdy j 0) j
    ready_at nodes s a j h = ap (λ (x : Node). x.ready) (a.at j h)

    -- no slot below the least is its node
    not-below : (nodes : List Node) (s : St) → Alike nodes s → (j : ℕ) → j < n → j < least s.rdy n → (get_or nodes j blank).ready ≡ false
    not-below nodes s a j h q = ready_at nodes s a j h ∙ ne_eqb (get_or s.rdy j 0) j (λ e. absurd (omega (arith, least-le s.rdy n j (omega (arith, a.rdys)))))

    pub pick-none : (nodes : List Node) (s : St) → Alike nodes s → n ≤ least s.rdy n → first_ready nodes ≡ none
    pick-none nodes s a h = first-none nodes (λ j q. not-below nodes s a j (omega (arith, a.size)) (omega (arith, a.size)))

    -- the least slot is some node's own
    own : (s : St) (i : ℕ) → i ≡ least s.rdy n → i < n → length s.rdy ≡ n → ((j : ℕ) → j < n → (get_or s.rdy j 0 ≡ j) ⊎ (get_or s.rdy j 0 ≡ n)) → get_or s.rdy i 0 ≡ i
    own s i is h l sl = go (least-hit s.rdy n)
      where
        same : (j : ℕ) → j < n → least s.rdy n ≡ get_or s.rdy j 0 → (get_or s.rdy j 0 ≡ j) ⊎ (get_or s.rdy j 0 ≡ n) → get_or s.rdy i 0 ≡ i
        same j q e (inl p) = let z : i ≡ j = omega arith in rw z p
        same j q e (inr p) = absurd (omega arith)

        go : Hit s.rdy n (least s.rdy n) → get_or s.rdy i 0 ≡ i
        go (inl e) = absurd (omega arith)
        go (inr (j, q, e)) = let k : j < n = omega arith in same j k e (sl j k)

    pub pick_some : (nodes : List Node) (s : St) → Alike nodes s → (i : ℕ) → i ≡ least s.rdy n → i < n → first_ready nodes ≡ some (node_in s i)
    pick_some nodes s a i is h =
        first_some nodes i (omega (arith, a.size)) (ready_at nodes s a i h ∙ eq-eqb (get_or s.rdy i 0) i (own s i is h a.rdys a.slots))
        (λ j q. not-below nodes s a j (omega arith) (omega arith)) ∙ ap some (a.at i h)

    -- ---- the children of a node, and what comes after them

    visit-alike : (d lim : ℕ) (cs : List ℕ) → Nodes n cs → (nodes : List Node) (s : St) → Alike nodes s → (k : List Node → Ordered) (k' : St → Ordered)
        → ((nodes' : List Node) (s' : St) → Alike nodes' s' → k nodes' ≡ named name_of (k' s')) → after_visit (visit lim d (map name_of cs) nodes) k ≡ named name_of (after (visit_all d lim cs s) k')
    unfolding visit visit_all
    visit-alike d lim [] ns nodes s a k k' h = h nodes s a
    visit-alike d lim (c ∷ cs) ns nodes s a k k' h =
        rw (depth-alike nodes s a c (ns 0 (omega arith)))
        (go (ltb lim (max (get_or s.dep c 0) (d + 1))) (visit-alike d lim cs (λ j l. ns (suc j) (omega arith)) (touched (name_of c) (max (get_or s.dep c 0) (d + 1)) nodes) (touch c (max (get_or s.dep c 0) (d + 1)) s) (alike-touched nodes s a c (max (get_or s.dep c 0) (d + 1)) (ns 0 (omega arith))) k k' h))
      where
        go : (b : Bool) → after_visit (visit lim d (map name_of cs) (touched (name_of c) (max (get_or s.dep c 0) (d + 1)) nodes)) k ≡ named name_of (after (visit_all d lim cs (touch c (max (get_or s.dep c 0) (d + 1)) s)) k')
            → after_visit (cond b (R.deep (max (get_or s.dep c 0) (d + 1))) (visit lim d (map name_of cs) (touched (name_of c) (max (get_or s.dep c 0) (d + 1)) nodes))) k
            ≡ named name_of (after (cond b (G.deep (max (get_or s.dep c 0) (d + 1))) (visit_all d lim cs (touch c (max (get_or s.dep c 0) (d + 1)) s))) k')
        go true e = refl
        go false e = e

    -- ---- the whole

    module _ (off edges : List ℕ) (lim : ℕ) (g : Graph n off edges) (kin : (i : ℕ) → i < n → kids i ≡ map name_of (children off edges i)) where
      -- what is still to be taken gives the same on both sides
      abbrev Same : ℕ → Type 0
      Same f = (xs : List ℕ) (nodes : List Node) (s : St) → Alike nodes s → order_from lim f (map name_of xs) nodes ≡ named name_of (run n off edges lim f xs s)

      none-ready : (f : ℕ) (xs : List ℕ) (nodes : List Node) (s : St) → Alike nodes s → n ≤ least s.rdy n → order_from lim (suc f) (map name_of xs) nodes ≡ named name_of (run n off edges lim (suc f) xs s)
      unfolding order_from run
      none-ready f xs nodes s a h = rw (le-ltb (least s.rdy n) n h, pick-none nodes s a h) refl

      some-ready : (f : ℕ) → Same f → (xs : List ℕ) (nodes : List Node) (s : St) → Alike nodes s → least s.rdy n < n → order_from lim (suc f) (map name_of xs) nodes ≡ named name_of (run n off edges lim (suc f) xs s)
      unfolding order_from run
      some-ready f ih xs nodes s a h =
          let i : ℕ = least s.rdy n in
          let more : (nodes' : List Node) (s' : St) → Alike nodes' s' → order_from lim f (map name_of xs ++ (name_of i ∷ [])) nodes' ≡ named name_of (run n off edges lim f (xs ++ (i ∷ [])) s') =
          λ nodes' s' a'. ap (λ (ys : List ℕ). order_from lim f ys nodes') (sym (map-append name_of xs (i ∷ []))) ∙ ih (xs ++ (i ∷ [])) nodes' s' a' in
          rw (lt-ltb i n h, pick_some nodes s a i refl h, kin i h)
          (visit-alike (get_or s.dep i 0) lim (children off edges i) (slice-nodes n (get_or off (2 * i + 1) 0) (get_or off (2 * i + 2) 0) edges g.nodes (g.inside (2 * i + 2)))
          (taken (name_of i) nodes) (unready n i s) (alike-taken nodes s a i h) (λ rest. order_from lim f (map name_of xs ++ (name_of i ∷ [])) rest) (λ t. run n off edges lim f (xs ++ (i ∷ [])) t) more)

      pub run-alike : (f : ℕ) → Same f
      unfolding order_from run
      run-alike zero xs nodes s a = refl
      run-alike (suc f) xs nodes s a = ⊎_elim (some-ready f (run-alike f) xs nodes s a) (none-ready f xs nodes s a) (lt-or-le (least s.rdy n) n)

-- ---- from the start, over segments

module _ (n : ℕ) (S : List Segment) (off edges : List ℕ) (size : length S ≡ n) (elders : (i : ℕ) → i < n → length (parents off edges i) ≡ length (get_or S i bare).parents) where
  abbrev kids_of : ℕ → List ℕ
  kids_of i = (get_or S i bare).children

  start-alike : Alike n (ids_of S) kids_of (map node_of S) (start n off edges)
  start-alike =
      record {
        size = length-map S node_of ∙ size;
        degs = length-tab (λ i. length (parents off edges i)) n;
        deps = length-replicate n 0;
        rdys = length-tab (λ i. cond (eqb (length (parents off edges i)) 0) i n) n;
        slots = λ i h. rw (get_or-tab (λ i. cond (eqb (length (parents off edges i)) 0) i n) n i h) (slot i (eqb (length (parents off edges i)) 0));
        at = at;
      }
    where
      slot : (i : ℕ) (b : Bool) → (cond b i n ≡ i) ⊎ (cond b i n ≡ n)
      slot i true = inl refl
      slot i false = inr refl

      ready : (i : ℕ) → i < n → (b : Bool) → b ≡ eqb (cond b i n) i
      ready i h true = sym (eq-eqb i i refl)
      ready i h false = sym (ne_eqb n i (omega arith))

      at : (i : ℕ) → i < n → get_or (map node_of S) i blank ≡ node_in n (ids_of S) kids_of (start n off edges) i
      at i h =
          rw (
            get_or-map node_of S i bare,
            get_or-map id_of S i bare,
            get_or-tab (λ i. length (parents off edges i)) n i h,
            get_or-tab (λ i. cond (eqb (length (parents off edges i)) 0) i n) n i h,
            get_or-replicate {A = ℕ} n i 0 0 h,
            elders i h,
          )
          (ap (λ (b : Bool). record { id = id_of (get_or S i bare); waits = length (get_or S i bare).parents; depth = 0; ready = b; children = (get_or S i bare).children }) (ready i h (eqb (length (get_or S i bare).parents) 0)))

  -- the order by id is the order by node number, each node by its id
  pub judge-alike : (lim : ℕ) → Graph n off edges → Ascends (ids_of S) → ((i : ℕ) → i < n → (get_or S i bare).children ≡ map (λ k. get_or (ids_of S) k 0) (children off edges i))
      → order_from lim n [] (map node_of S) ≡ named (λ k. get_or (ids_of S) k 0) (judge n off edges lim)
  judge-alike lim g up kin =
      let l : length (ids_of S) ≡ n = length-map S id_of ∙ size in
      run-alike n (ids_of S) kids_of (λ p q h k. up p q h (omega arith)) off edges lim g kin n [] (map node_of S) (start n off edges) start-alike
