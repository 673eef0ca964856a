-- `order::begin::begin_deg` meets its contract: after i turns the first i words are degrees, and those from n on are as they were.
use mathlib.Core.Path.{◌≡◌}
use Prim.Native.Nat.{◌≤◌}
use lib.ListN.{drop, length, take}
use Rattle.order.specs.Area.{edges_in, off_in}
use Rattle.order.specs.Graph.{parents, tab}
use Rattle.order.proofs.begin.begin_deg.Given as goal

abbrev pub invariant-loop-i : goal.invariant-loop-i
invariant-loop-i l =
    (l.i ≤ l.n)
    × (length l.w ≡ length l.initial.w)
    × (take l.i l.w ≡ tab (λ k. length (parents (off_in l.n l.initial.w) (edges_in l.n l.m l.initial.w) k)) l.i)
    × (drop l.n l.w ≡ drop l.n l.initial.w)
