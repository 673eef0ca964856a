-- Where the edges of a row stand.
-- Assumes nothing.
use Rattle.std.specs.Prelude.{ℕ, ◌+◌, ◌*◌, List}
use Rattle.types.specs.declared.records.Side.{Side}
use Rattle.types.specs.declared.records.Side.TheVariants.{Parents, Children}
use Rattle.rules.specs.Tables.{held_width, start_of, parents_at, children_at}
use Rattle.held.specs.declared.Span.{Span}

-- the parents of row r stand first, its children behind them
abbrev pub span_of : Side → List ℕ → ℕ → Span
span_of Parents rows r = record { start = start_of held_width rows r; length = parents_at rows (r * held_width) }
span_of Children rows r = record { start = start_of held_width rows r + parents_at rows (r * held_width); length = children_at rows (r * held_width) }
