-- The new rows as the handover reads them.
-- Assumes nothing.
use Rattle.std.specs.Prelude.{ℕ, List, []}
use Rattle.rules.specs.Model.{Segment}
use Rattle.rules.specs.Tables.{held_segments}

-- the segments of a table, their edges unread
abbrev pub bare : List ℕ → ℕ → List Segment
bare rows n = held_segments rows [] n
