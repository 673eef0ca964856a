-- `paired::ids::write_lacking` meets its contract: after i turns the ids lacking among the first i stand at the front of out (`Listed`).
use Prim.Native.Nat.{◌≤◌}
use Rattle.paired.specs.Held.{ids_held}
use Rattle.paired.proofs.Listed.{Listed}
use Rattle.paired.proofs.ids.write_lacking.Given as goal

abbrev pub invariant-loop-i : goal.invariant-loop-i
invariant-loop-i l = (l.i ≤ l.these.count) × Listed l.initial.out l.out (ids_held l.these) (ids_held l.those) l.k l.i
