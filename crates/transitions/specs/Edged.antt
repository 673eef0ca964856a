-- A row of held tables as the segment that it stands for, and what a judge of one row asks.
-- Assumes nothing.
use Rattle.std.specs.Prelude.{ℕ, ◌+◌, ◌*◌, ◌<◌, ◌≤◌, ◌≡◌, Bool, List, length}
use Rattle.rules.specs.Model.{Segment}
use Rattle.rules.specs.Tables.{held_width, start_of, parents_at, children_at}
use Rattle.rules.specs.Tiling.{tiles, ranges_of}
use Rattle.tabled.specs.Image.{segment_in}
use Rattle.held.specs.declared.Held.{Held}

-- the segment of row i
abbrev pub segment_of : Held → ℕ → Segment
segment_of held i = segment_in held.rows.now held.edges.now i

-- the ranges of the segments with these ids tile the range of s
abbrev pub tiled_by : List Segment → Segment → List ℕ → Bool
tiled_by ss s list = tiles s.head.start s.head.end (ranges_of ss list)

-- row i, and ids that it lists: the scratch has room for their ranges
pub record Listed (held : Held) (i : ℕ) (list scratch : List ℕ) : Type 0 where
  pub row : i < held.count
  pub fits : 3 * length list ≤ length scratch

-- row i, whose edges begin at `start` and lie in the table: the scratch has room for the ranges of all edges
pub record Edged (held : Held) (i start : ℕ) (scratch : List ℕ) : Type 0 where
  pub row : i < held.count
  pub fits : 3 * length held.edges.now ≤ length scratch
  pub begins : start ≡ start_of held_width held.rows.now i
  pub within : start + parents_at held.rows.now (i * held_width) + children_at held.rows.now (i * held_width) ≤ length held.edges.now
