-- `row::span_in` meets its contract: the edges of the row are among the g words.
use Rattle.std.proofs.Common.{arith}
use Rattle.rules.specs.Tables.{held_width}
use Rattle.rules.proofs.Places.{start-room}
use Rattle.held.proofs.row.span_in.Goals as goal

pub overflow_add-result : goal.overflow_add-result
overflow_add-result c =
    omega (arith, c.edge_start-start.ensures, c.parents-parents.ensures, c.ranges.g.fits, start-room held_width c.args.rows.now c.args.h c.args.r c.args.g c.requires.counts c.requires.below)

pub returns-in-Parents-clause-within : goal.returns-in-Parents-clause-within
returns-in-Parents-clause-within c =
    omega (arith, c.edge_start-start.ensures, c.parents-parents.ensures, start-room held_width c.args.rows.now c.args.h c.args.r c.args.g c.requires.counts c.requires.below)

pub returns-in-Children-clause-within : goal.returns-in-Children-clause-within
returns-in-Children-clause-within c =
    omega (arith, c.edge_start-start.ensures, c.parents-parents.ensures, c.children.ensures, start-room held_width c.args.rows.now c.args.h c.args.r c.args.g c.requires.counts c.requires.below)
