-- `ordered::translate::lay_edges` meets its contract: after k turns the first k edges stand there as row numbers.
use Rattle.std.proofs.Common.{◌≡◌, take}
use mathlib.Core.List.{map}
use Rattle.ordered.specs.Numbers.{node_named}
use Rattle.words.specs.Part.{put}
use Rattle.ordered.proofs.translate.lay_edges.Given as goal

abbrev pub invariant-loop-k : goal.invariant-loop-k
invariant-loop-k l = l.scratch ≡ put l.initial.scratch l.base l.k (map (node_named l.held.rows.now l.held.count) (take l.k l.held.edges.now))
