-- `fill_starts` meets its contract: the edges of the row at hand are among the g words.
use Rattle.std.proofs.Common.{arith}
use Rattle.rules.specs.Tables.{held_width}
use Rattle.rules.proofs.Places.{start-room}
use Rattle.walk.proofs.starts.fill_starts.Goals as goal

pub edges_end-at-requires-clause-end : goal.edges_end-at-requires-clause-end
edges_end-at-requires-clause-end c =
    omega (arith, c.loop-i.invariant.2, c.ranges.g.fits, start-room held_width c.args.rows.now c.args.n c.loop-i.i c.args.g c.requires.counts c.loop-i-test.true)
