-- Document 01: "Order: always take the smallest ready id; its children in list order get depth one more than it, at least; above the
-- limit is 28, at once." Where no segment is ready before all were taken, there is a cycle: 29.
-- Assumes nothing.
use Rattle.std.specs.Prelude.{ℕ, zero, suc, ◌+◌, ◌-◌, max, Bool, true, false, cond, List, [], ◌∷◌, ◌++◌, map, eqb, ltb, length}
use Rattle.std.proofs.Math.Option.{Option, none, some}
use Rattle.answers.specs.Answer.{Judged, Accepted, Refused}
use Rattle.rules.specs.Model.{Segment, by_id}
use Rattle.answers.specs.declared.Refusal.TheVariants.{Depth, Cycle}

-- a segment while the order is made: how many parents are still to be taken before it, its depth so far, and whether it is ready
pub record Node : Type 0 where
  pub id : ℕ
  pub waits : ℕ
  pub depth : ℕ
  pub ready : Bool
  pub children : List ℕ

-- at first a segment waits for all its parents, and is ready if it has none
abbrev pub node_of : Segment → Node
node_of s = record {
  id = s.head.id;
  waits = length s.parents;
  depth = 0;
  ready = eqb (length s.parents) 0;
  children = s.children;
}

-- the first that is ready: nodes ascend by id, so it is the smallest
unfoldable pub first_ready : List Node → Option Node
first_ready [] = none
first_ready (x ∷ xs) = cond x.ready (some x) (first_ready xs)

-- it is taken, and ready no more
unfoldable pub taken : ℕ → List Node → List Node
taken id [] = []
taken id (x ∷ xs) =
    cond (eqb x.id id)
    (record { id = x.id; waits = x.waits; depth = x.depth; ready = false; children = x.children } ∷ xs)
    (x ∷ taken id xs)

-- the depth that a node has so far
unfoldable pub depth_of : ℕ → List Node → ℕ
depth_of id [] = 0
depth_of id (x ∷ xs) = cond (eqb x.id id) x.depth (depth_of id xs)

-- a child waits for one parent less, gets that depth, and is ready when it waits for none
abbrev pub touched_node : ℕ → Node → Node
touched_node e x = record {
  id = x.id;
  waits = x.waits - 1;
  depth = e;
  ready = cond (eqb (x.waits - 1) 0) true x.ready;
  children = x.children;
}

unfoldable pub touched : ℕ → ℕ → List Node → List Node
touched id e [] = []
touched id e (x ∷ xs) = cond (eqb x.id id) (touched_node e x ∷ xs) (x ∷ touched id e xs)

-- how taking one node went
pub data Visited : Type 0 where
  on : List Node → Visited
  deep : ℕ → Visited

-- the children, in list order, of a node of depth d
unfoldable pub visit : ℕ → ℕ → List ℕ → List Node → Visited
visit limit d [] nodes = on nodes
visit limit d (c ∷ cs) nodes =
    let e : ℕ = max (depth_of c nodes) (d + 1) in
    cond (ltb limit e) (deep e) (visit limit d cs (touched c e nodes))

pub data Ordered : Type 0 where
  in_order : List ℕ → Ordered
  too_deep : ℕ → Ordered
  cyclic : Ordered

-- where no node is ready there is a cycle; a child above the limit ends it
abbrev pub after_pick : Option Node → (Node → Ordered) → Ordered
after_pick none next = cyclic
after_pick (some x) next = next x

abbrev pub after_visit : Visited → (List Node → Ordered) → Ordered
after_visit (on nodes) next = next nodes
after_visit (deep e) next = too_deep e

-- f nodes are still to be taken; those of xs were, in this order
unfoldable pub order_from : ℕ → ℕ → List ℕ → List Node → Ordered
order_from limit zero xs nodes = in_order xs
order_from limit (suc f) xs nodes =
    after_pick (first_ready nodes) (λ x.
    after_visit (visit limit x.depth x.children (taken x.id nodes)) (λ rest.
    order_from limit f (xs ++ (x.id ∷ [])) rest))

unfoldable pub order_of : ℕ → List Segment → Ordered
order_of limit ss = order_from limit (length ss) [] (map node_of (by_id ss))

-- 28 (actual, max), 29
unfoldable pub ordered_rule : ℕ → Ordered → Judged
ordered_rule limit (in_order xs) = Accepted
ordered_rule limit (too_deep e) = Refused (Depth e limit)
ordered_rule limit cyclic = Refused Cycle

unfoldable pub order_rule : ℕ → List Segment → Judged
order_rule limit ss = ordered_rule limit (order_of limit ss)

-- the order list of an accepted layout
abbrev pub order_words : Ordered → List ℕ
order_words (in_order xs) = xs
order_words (too_deep e) = []
order_words cyclic = []
