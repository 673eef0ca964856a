-- `order::taking::visit_all` meets its contract: the children still to come give the whole answer.
use mathlib.Core.Path.{◌≡◌}
use Prim.Native.Nat.{◌*◌, ◌≤◌}
use lib.ListN.{drop, length}
use lib.Seq.{slice}
use Rattle.order.specs.Area.{tree_in, view}
use Rattle.order.specs.Graph.{visit_all}
use Rattle.tree.specs.Tree.{Tree}
use Rattle.order.proofs.taking.visit_all.Given as goal

abbrev pub invariant-loop-j : goal.invariant-loop-j
invariant-loop-j l =
    (l.from ≤ l.j) × (l.j ≤ l.to) × (length l.w ≡ length l.initial.w) × Tree l.n (tree_in l.n l.w) × (drop (4 * l.n) l.w ≡ drop (4 * l.n) l.initial.w)
    × (visit_all l.d l.lim (slice l.from l.to l.initial.w) (view l.n l.initial.w) ≡ visit_all l.d l.lim (slice l.j l.to l.initial.w) (view l.n l.w))
