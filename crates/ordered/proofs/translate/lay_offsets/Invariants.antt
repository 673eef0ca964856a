-- `ordered::translate::lay_offsets` meets its contract: after i turns the offsets of the first i rows stand there, and the edges of row i begin at `start`.
use Rattle.std.proofs.Common.{◌≡◌, ◌*◌}
use Rattle.ordered.specs.Numbers.{offsets_below}
use Rattle.rules.specs.Tables.{held_width, start_of}
use Rattle.words.specs.Part.{put}
use Rattle.ordered.proofs.translate.lay_offsets.Given as goal

abbrev pub invariant-loop-i : goal.invariant-loop-i
invariant-loop-i l =
    (l.scratch ≡ put l.initial.scratch l.base (2 * l.i) (offsets_below l.held.rows.now l.i)) × (l.start ≡ start_of held_width l.held.rows.now l.i)
