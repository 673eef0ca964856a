-- `all_single` is `all_single`. The invariant: the test of the whole list is the test of the ids to come.
use Rattle.std.proofs.Common.{◌≡◌, drop}
use Rattle.rules.specs.Tiling.{all_single}
use Rattle.held.specs.Front.{segments_of}
use Rattle.transitions.proofs.forks.all_single.Given as goal

abbrev pub invariant-loop-id : goal.invariant-loop-id
invariant-loop-id l = all_single (segments_of l.held) l.ids ≡ all_single (segments_of l.held) (drop l.id-index l.ids)
