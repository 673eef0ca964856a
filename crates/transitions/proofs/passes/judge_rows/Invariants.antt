-- `judge_rows` is `edges_from` over all segments. The invariant: the edges of row i begin at `start`, and all is judged but the rows from i on.
use Rattle.std.proofs.Common.{◌≡◌, drop}
use Rattle.rules.specs.Tables.{held_width, start_of}
use Rattle.held.specs.Front.{segments_of}
use Rattle.transitions.specs.Passes.{edges_from}
use Rattle.transitions.proofs.passes.judge_rows.Given as goal

abbrev pub invariant-loop-i : goal.invariant-loop-i
invariant-loop-i l =
    let ss = segments_of l.held in
    (l.start ≡ start_of held_width l.held.rows.now l.i) × (edges_from l.side ss ss ≡ edges_from l.side ss (drop l.i ss))
