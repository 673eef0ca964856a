-- `has_bad_row` meets its contract. The invariant: some row is bad if one of those to come is.
use Prim.Native.Nat.{◌-◌}
use mathlib.Core.Path.{◌≡◌}
use Rattle.rules.specs.Shape.{any_bad}
use Rattle.shape.specs.Kinds.{width_of, bad_row}
use Rattle.shape.proofs.rows.has_bad_row.Given as goal

abbrev pub invariant-loop-i : goal.invariant-loop-i
invariant-loop-i l =
    any_bad (bad_row l.kind) (width_of l.kind) l.rows l.n 0 ≡ any_bad (bad_row l.kind) (width_of l.kind) l.rows (l.n - l.i) l.i
