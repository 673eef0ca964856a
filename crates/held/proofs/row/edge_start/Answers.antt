-- `row::edge_start` meets its contract: the edges of the row at hand are among the g words.
use Rattle.std.proofs.Common.{arith}
use Rattle.rules.specs.Tables.{held_width}
use Rattle.rules.proofs.Places.{start-room}
use Rattle.held.proofs.row.edge_start.Goals as goal

pub edges_end-start-requires-clause-end : goal.edges_end-start-requires-clause-end
edges_end-start-requires-clause-end c =
    omega (arith, c.loop-i.invariant, c.ranges.g.fits, start-room held_width c.args.rows.now c.args.h c.loop-i.i c.args.g c.requires.counts (omega (arith, c.loop-i-test.true, c.requires.below)))
