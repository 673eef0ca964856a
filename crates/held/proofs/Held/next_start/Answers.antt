-- `next_start` meets its contract: the edges of the row at hand are in the table.
use Rattle.std.proofs.Common.{arith}
use Rattle.held.proofs.Fronts.{edges_in_table}
use Rattle.held.proofs.Held.next_start.Goals as goal

pub edges_end-requires-clause-end : goal.edges_end-requires-clause-end
edges_end-requires-clause-end c = omega (arith, c.requires.start, edges_in_table _ _ _ c.args.self.now.tabled _ c.requires.below)
