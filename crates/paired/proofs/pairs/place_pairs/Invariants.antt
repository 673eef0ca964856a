-- The invariant: the pairs of the first i rows are placed (`Gathered`).
use Prim.Native.Nat.{◌≤◌}
use Rattle.paired.specs.Held.{ids_held}
use Rattle.paired.proofs.Gathered.{Gathered}
use Rattle.paired.proofs.pairs.place_pairs.Given as goal

abbrev pub invariant-loop-i : goal.invariant-loop-i
invariant-loop-i l = (l.i ≤ l.image.count) × Gathered l.kind (ids_held l.old) l.image.rows.now l.image.edges.now l.initial.scratch l.scratch l.image.count l.from l.k l.i
