-- `place_listed` places the ranges of the listed segments. The invariant: what stands and then what the rest of the list gives is all.
use Rattle.std.proofs.Common.{drop}
use Rattle.rules.specs.Tiling.{ranges_of}
use Rattle.held.specs.Front.{segments_of}
use Rattle.transitions.proofs.Placing.{Placed}
use Rattle.transitions.proofs.place.place_listed.Given as goal

abbrev pub invariant-loop-id : goal.invariant-loop-id
invariant-loop-id l = Placed l.scratch l.k l.id-index (ranges_of (segments_of l.held) l.ids) (ranges_of (segments_of l.held) (drop l.id-index l.ids))
