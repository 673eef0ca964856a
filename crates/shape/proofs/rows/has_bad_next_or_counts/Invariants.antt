-- `has_bad_next_or_counts` meets its contract. The invariant is that of `has_bad_next` and that of `has_wrong_counts`.
use Prim.Native.Nat.{◌+◌, ◌-◌}
use mathlib.Core.Path.{◌≡◌}
use Rattle.rules.specs.Tables.{held_width, edges_from}
use Rattle.rules.specs.Shape.{any_bad}
use Rattle.shape.specs.Next.{bad_next}
use Rattle.shape.proofs.rows.has_bad_next_or_counts.Given as goal

abbrev pub invariant-loop-i : goal.invariant-loop-i
invariant-loop-i l = (any_bad bad_next held_width l.rows l.n 0 ≡ any_bad bad_next held_width l.rows (l.n - l.i) l.i) × (edges_from held_width l.rows l.n 0 + l.left ≡ edges_from held_width l.rows (l.n - l.i) l.i + l.len)
