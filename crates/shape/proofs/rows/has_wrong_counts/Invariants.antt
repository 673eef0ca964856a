-- `has_wrong_counts` meets its contract. The invariant: the counts of all rows and what is left are the counts of the rows to come and `len`.
use Prim.Native.Nat.{◌+◌, ◌-◌}
use mathlib.Core.Path.{◌≡◌}
use Rattle.rules.specs.Tables.{row_width, edges_from}
use Rattle.shape.proofs.rows.has_wrong_counts.Given as goal

abbrev pub invariant-loop-i : goal.invariant-loop-i
invariant-loop-i l = edges_from row_width l.rows l.n 0 + l.left ≡ edges_from row_width l.rows (l.n - l.i) l.i + l.len
