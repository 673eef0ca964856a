-- `ordered::translate::lay_ids` meets its contract: after k turns the first k nodes are ids, and the others are still to be read.
use Rattle.std.proofs.Common.{◌≡◌, take}
use mathlib.Core.List.{map}
use Rattle.ordered.specs.Numbers.{id_in}
use Rattle.words.specs.Part.{part, put}
use Rattle.ordered.proofs.translate.lay_ids.Given as goal

abbrev pub invariant-loop-k : goal.invariant-loop-k
invariant-loop-k l = l.scratch ≡ put l.initial.scratch l.base l.k (map (id_in l.rows) (take l.k (part l.initial.scratch l.base l.n)))
