-- `row::edge_start` meets its contract. The invariant: the edges of row i begin at `start`.
use Rattle.std.proofs.Common.{◌≡◌, ◌≤◌}
use Rattle.rules.specs.Tables.{held_width, start_of}
use Rattle.held.proofs.row.edge_start.Given as goal

abbrev pub invariant-loop-i : goal.invariant-loop-i
invariant-loop-i l = l.start ≡ start_of held_width l.rows l.i
