-- `order::arrange::arrange` meets its contract: k nodes were taken, and what is left to do gives the whole answer.
use Prim.Native.Nat.{◌≤◌}
use Rattle.order.proofs.AreaLoop.{GoingOn}
use Rattle.order.proofs.arrange.arrange.Given as goal

abbrev pub invariant-loop-k : goal.invariant-loop-k
invariant-loop-k l = (l.k ≤ l.n) × GoingOn l.n l.m l.lim l.initial.w l.w l.k
