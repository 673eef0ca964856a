-- `place_active` places the ranges of the Active segments. The invariant: what stands and then what the rest of the rows gives is all.
use Rattle.std.proofs.Common.{drop}
use Rattle.rules.specs.Tiling.{active_of}
use Rattle.held.specs.Front.{segments_of}
use Rattle.transitions.proofs.Placing.{Placed}
use Rattle.transitions.proofs.place.place_active.Given as goal

abbrev pub invariant-loop-i : goal.invariant-loop-i
invariant-loop-i l = Placed l.scratch l.k l.i (active_of (segments_of l.held)) (active_of (drop l.i (segments_of l.held)))
