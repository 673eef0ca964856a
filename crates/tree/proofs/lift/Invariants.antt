-- `tree::lift` meets its contract: every word but k is the lesser of its two, and k halves until it is 0.
use mathlib.Core.Path.{◌≡◌}
use Prim.Native.Nat.{◌<◌}
use lib.ListN.{drop}
use Rattle.tree.specs.Tree.{TreeBut}
use Rattle.tree.proofs.lift.Given as goal

abbrev pub invariant-loop-k : goal.invariant-loop-k
invariant-loop-k l = TreeBut l.n l.t l.k × (l.k < l.n) × (drop l.n l.t ≡ drop l.n l.initial.t)

abbrev pub decreases-loop-k : goal.decreases-loop-k
decreases-loop-k l = l.k
