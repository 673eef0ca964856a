-- `ordered::translate::lay_offsets` meets its contract: after i turns the offsets of the first i rows stand there, and the edges of row i begin at `start`.
use Rattle.std.proofs.Common.{◌*◌, refl, arith}
use Rattle.ordered.proofs.LayLaws.{offsets-begin}
use Rattle.ordered.proofs.LayTurns.{offsets-done, offsets_room, offsets-turn}
use Rattle.ordered.proofs.translate.lay_offsets.Goals as goal

pub loop-i-init : goal.loop-i-init
loop-i-init c = (offsets-begin c.args.held.now.rows.now c.args.scratch.now (5 * c.args.held.now.count), refl)

pub loop-i-preserved : goal.loop-i-preserved
loop-i-preserved c =
    (offsets-turn c.args.held.now c.args.scratch.now c.requires c.loop-i.scratch c.loop-i.i c.loop-i.start c.loop-i.invariant.0 c.loop-i.invariant.1 c.loop-i-test.true _ c.parent_count.ensures, c.next_start-start.ensures)

pub returns : goal.returns
returns c = offsets-done c.args.held.now c.args.scratch.now c.requires c.loop-i.scratch c.loop-i.i c.loop-i.start c.loop-i.invariant.0 c.loop-i.invariant.1 (omega arith)

pub overflow_add-scratch-in-loop-i : goal.overflow_add-scratch-in-loop-i
overflow_add-scratch-in-loop-i c =
    omega (
      arith,
      offsets_room c.args.held.now c.args.scratch.now c.requires c.loop-i.scratch c.loop-i.i c.loop-i.start c.loop-i.invariant.0 c.loop-i.invariant.1 c.loop-i-test.true,
      c.parent_count.ensures,
    )
