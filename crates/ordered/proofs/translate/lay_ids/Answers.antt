-- `ordered::translate::lay_ids` meets its contract: after k turns the first k nodes are ids, and the others are still to be read.
use Rattle.std.proofs.Common.{◌*◌, refl, arith}
use Rattle.ordered.proofs.LayTurns.{ids-done, ids-turn, node-below}
use Rattle.words.proofs.PartLaws.{put-none}
use Rattle.ordered.proofs.translate.lay_ids.Goals as goal

pub loop-k-init : goal.loop-k-init
loop-k-init c = put-none c.args.scratch.now (4 * c.args.n)

pub overflow_mul-scratch : goal.overflow_mul-scratch
overflow_mul-scratch c =
    omega (arith, c.requires.rows_fit, node-below c.args.rows.now c.args.n c.args.scratch.now c.requires.room c.requires.nodes c.loop-k.scratch c.loop-k.k c.loop-k.invariant c.loop-k-test.true _ c.index-node.ensures)

pub loop-k-preserved : goal.loop-k-preserved
loop-k-preserved c =
    ids-turn c.args.rows.now c.args.n c.args.scratch.now c.requires.room c.requires.nodes c.loop-k.scratch c.loop-k.k c.loop-k.invariant c.loop-k-test.true _ c.index-node.ensures _ refl

pub returns : goal.returns
returns c = ids-done c.args.rows.now c.args.n c.args.scratch.now c.requires.room c.requires.nodes c.loop-k.scratch c.loop-k.k c.loop-k.invariant (omega arith)
