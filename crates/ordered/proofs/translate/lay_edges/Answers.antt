-- `ordered::translate::lay_edges` meets its contract: after k turns the first k edges stand there as row numbers.
use Rattle.std.proofs.Common.{◌*◌, ◌+◌, arith}
use Rattle.ordered.proofs.LayTurns.{edges-done, edges-turn}
use Rattle.words.proofs.PartLaws.{put-none}
use Rattle.ordered.proofs.translate.lay_edges.Goals as goal

pub loop-k-init : goal.loop-k-init
loop-k-init c = put-none c.args.scratch.now (7 * c.args.held.now.count + 1)

pub loop-k-preserved : goal.loop-k-preserved
loop-k-preserved c = edges-turn c.args.held.now c.args.scratch.now c.requires c.loop-k.scratch c.loop-k.k c.loop-k.invariant c.loop-k-test.true _ c.row_of.ensures

pub returns : goal.returns
returns c = edges-done c.args.held.now c.args.scratch.now c.requires c.loop-k.scratch c.loop-k.k c.loop-k.invariant (omega arith)
