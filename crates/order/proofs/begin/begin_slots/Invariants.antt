-- `order::begin::begin_slots` meets its contract: after i turns the first i slots are those of the degrees, and only the tree's words changed.
use mathlib.Core.Bool.{cond}
use mathlib.Core.Path.{◌≡◌}
use Prim.Native.Nat.{◌≤◌}
use lib.Dec.{eqb}
use lib.ListN.{drop, get_or, length, take}
use Rattle.order.specs.Area.{Beside, tree_in}
use Rattle.order.specs.Graph.{tab}
use Rattle.tree.specs.Tree.{Tree}
use Rattle.words.specs.Part.{part}
use Rattle.order.proofs.begin.begin_slots.Given as goal

abbrev pub invariant-loop-i : goal.invariant-loop-i
invariant-loop-i l =
    (l.i ≤ l.n)
    × (length l.w ≡ length l.initial.w)
    × Tree l.n (tree_in l.n l.w)
    × Beside l.n l.initial.w l.w
    × (take l.i (drop l.n (tree_in l.n l.w)) ≡ tab (λ k. cond (eqb (get_or (part l.initial.w 0 l.n) k 0) 0) k l.n) l.i)
