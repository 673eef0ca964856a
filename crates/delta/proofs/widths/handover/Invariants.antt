-- `delta::widths::handover` meets its contract: what was summed and what the rows to come hand over is all of it (`Summed`).
use Rattle.paired.specs.Held.{ids_held}
use Rattle.delta.proofs.Summed.{Summed}
use Rattle.delta.proofs.widths.handover.Given as goal

abbrev pub invariant-loop-i : goal.invariant-loop-i
invariant-loop-i l = Summed (ids_held l.old) l.rows l.n l.i l.sum
