-- The parts of the work area: of a graph of n nodes, the words 0..n are the parents still awaited, n..2n the depths, 2n..4n the tree of the
-- ready set, 4n..5n the order that is being written, 5n..7n+1 the offsets, and from 7n+1 on the edges.
-- Assumes nothing.
use Rattle.std.specs.Prelude.{List, ◌≡◌, ℕ, ◌+◌, ◌*◌, ◌≤◌, drop, length, Result, Ok, Err}
use Rattle.words.specs.Part.{part}
use Rattle.rules.specs.Order.{Ordered, in_order, too_deep, cyclic}
use Rattle.order.specs.Graph.{St, st, Graph}
use Rattle.order.specs.declared.OrderError.{OrderError}
use Rattle.order.specs.declared.OrderError.TheVariants as E

abbrev pub tree_in : ℕ → List ℕ → List ℕ
tree_in n w = part w (2 * n) (2 * n)

-- the state that the work area holds
abbrev pub view : ℕ → List ℕ → St
view n w = st n (part w 0 n) (part w n n) (tree_in n w)

-- the order that is being written, the graph's offsets, and its m edge words
abbrev pub order_in : ℕ → List ℕ → List ℕ
order_in n w = part w (4 * n) n

abbrev pub off_in : ℕ → List ℕ → List ℕ
off_in n w = part w (5 * n) (2 * n + 1)

abbrev pub edges_in : ℕ → ℕ → List ℕ → List ℕ
edges_in n m w = part w (7 * n + 1) m

-- a graph of n nodes and m edge words lies in the area
pub record Laid (n m : ℕ) (w : List ℕ) : Type 0 where
  pub room : 7 * n + 1 + m ≤ length w
  pub graph : Graph n (off_in n w) (edges_in n m w)

-- how the order of a graph's nodes came out
abbrev pub Order : Type 0
Order = Result (Unit {0}) OrderError

pattern abbrev pub Whole : Order
Whole = Ok tt

pattern abbrev pub Depth : ℕ → Order
Depth e = Err (E.Depth e)

pattern abbrev pub Cycle : Order
Cycle = Err E.Cycle

-- the code's answer, and the order's words after it
pub record Wrote (xs : List ℕ) (r : Order) (o : List ℕ) : Type 0 where
  pub answer : r ≡ Whole
  pub list : o ≡ xs

abbrev pub Told : Ordered → Order → List ℕ → Type 0
Told (in_order xs) r o = Wrote xs r o
Told (too_deep e) r o = r ≡ Depth e
Told cyclic r o = r ≡ Cycle

-- all words but the tree's are as they were
pub record Beside (n : ℕ) (w w' : List ℕ) : Type 0 where
  pub degs : part w' 0 n ≡ part w 0 n
  pub deps : part w' n n ≡ part w n n
  pub rest : drop (4 * n) w' ≡ drop (4 * n) w
