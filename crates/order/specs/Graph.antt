-- The order of document 01 over the nodes 0 to n - 1 of a graph: always take the smallest ready node; its children in list order get depth
-- one more than it, at least; above the limit is a refusal, at once; and where no node is ready before all were taken there is a cycle.
-- Assumes nothing.
use Rattle.std.specs.Prelude.{◌≡◌, cond, List, [], ◌∷◌, ◌++◌, ℕ, zero, suc, ◌+◌, ◌-◌, ◌*◌, ◌<◌, ◌≤◌, max, ltb, eqb, length, get_or, set, drop, replicate, Result, Ok, Err}
use Rattle.std.proofs.Math.Seq.{slice}
use Rattle.tree.specs.Tree.{least}
use Rattle.rules.specs.Order.{Ordered, in_order, too_deep, cyclic}
use Rattle.order.specs.declared.TooDeep.{TooDeep}

-- every element is a node
abbrev pub Nodes : ℕ → List ℕ → Type 0
Nodes n l = (k : ℕ) → k < length l → get_or l k 0 < n

-- off has 2 * n + 1 ascending offsets into edges: node i's parents lie from off[2i] to off[2i+1], its children from there to off[2i+2]
pub record Graph (n : ℕ) (off edges : List ℕ) : Type 0 where
  pub size : length off ≡ 2 * n + 1
  pub up : (k : ℕ) → k < 2 * n → get_or off k 0 ≤ get_or off (k + 1) 0
  pub inside : (k : ℕ) → get_or off k 0 ≤ length edges
  pub nodes : Nodes n edges

abbrev pub parents : List ℕ → List ℕ → ℕ → List ℕ
parents off edges i = slice (get_or off (2 * i) 0) (get_or off (2 * i + 1) 0) edges

abbrev pub children : List ℕ → List ℕ → ℕ → List ℕ
children off edges i = slice (get_or off (2 * i + 1) 0) (get_or off (2 * i + 2) 0) edges

-- of each node: how many of its parents are still to be taken, its depth so far, and its slot, which is the node itself while it is ready, and n otherwise
pub record St : Type 0 where
  pub deg : List ℕ
  pub dep : List ℕ
  pub rdy : List ℕ

-- the state that the words of the area hold: the slots are the second half of the tree
abbrev pub st : ℕ → List ℕ → List ℕ → List ℕ → St
st n deg dep tree = record { deg = deg; dep = dep; rdy = drop n tree }

-- child c gets depth e and waits for one parent less; it is ready when it waits for none
abbrev pub touch : ℕ → ℕ → St → St
touch c e s =
    record {
      deg = set s.deg c (get_or s.deg c 0 - 1);
      dep = set s.dep c e;
      rdy = cond (eqb (get_or s.deg c 0 - 1) 0) (set s.rdy c c) s.rdy;
    }

-- how taking one node went
pub data Went : Type 0 where
  on : St → Went
  deep : ℕ → Went

-- the children of a node of depth d, in list order
unfoldable pub visit_all : ℕ → ℕ → List ℕ → St → Went
visit_all d lim [] s = on s
visit_all d lim (c ∷ cs) s =
    let e : ℕ = max (get_or s.dep c 0) (d + 1) in
    cond (ltb lim e) (deep e) (visit_all d lim cs (touch c e s))

-- what the code's answer says: where all were visited, the state that it left
abbrev pub seen : Result (Unit {0}) TooDeep → St → Went
seen (Ok tt) s = on s
seen (Err e) s = deep e.0

abbrev pub after : Went → (St → Ordered) → Ordered
after (on s) k = k s
after (deep e) k = too_deep e

-- node i is taken: it is not ready any more
abbrev pub unready : ℕ → ℕ → St → St
unready n i s = record { deg = s.deg; dep = s.dep; rdy = set s.rdy i n }

-- f at 0, 1, .. , n - 1
unfoldable pub tab : (ℕ → ℕ) → ℕ → List ℕ
tab f zero = []
tab f (suc n) = tab f n ++ (f n ∷ [])

-- at first a node waits for all its parents, its depth is 0, and it is ready if it has none
abbrev pub start : ℕ → List ℕ → List ℕ → St
start n off edges =
    record {
      deg = tab (λ i. length (parents off edges i)) n;
      dep = replicate n 0;
      rdy = tab (λ i. cond (eqb (length (parents off edges i)) 0) i n) n;
    }

-- f nodes are still to be taken, and those of xs were taken, in this order
unfoldable pub run : ℕ → List ℕ → List ℕ → ℕ → ℕ → List ℕ → St → Ordered
run n off edges lim zero xs s = in_order xs
run n off edges lim (suc f) xs s =
    let i : ℕ = least s.rdy n in
    cond (ltb i n)
    (after (visit_all (get_or s.dep i 0) lim (children off edges i) (unready n i s)) (λ t. run n off edges lim f (xs ++ (i ∷ [])) t))
    cyclic

-- what is to be answered of a graph of n nodes, with no depth above lim
abbrev pub judge : ℕ → List ℕ → List ℕ → ℕ → Ordered
judge n off edges lim = run n off edges lim n [] (start n off edges)
