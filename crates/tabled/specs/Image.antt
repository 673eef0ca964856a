-- A table of n held rows ascending by id, with its edges; and such a table at the front of the work area, the image of a layout.
-- Assumes nothing.
use Rattle.std.specs.Prelude.{ℕ, ◌+◌, ◌*◌, ◌≤◌, ◌≡◌, List, length}
use Rattle.std.proofs.Math.Option.{Option, none, some}
use Rattle.words.specs.Part.{part}
use Rattle.words.specs.Table.{ids, Ascends, Found, At, Nothing}
use Rattle.rules.specs.Model.{Segment}
use Rattle.rules.specs.Tables.{held_width, edges_from, start_of, segment_at, held_segments}

pub record Tabled (rows edges : List ℕ) (n : ℕ) : Type 0 where
  pub size : length rows ≡ n * held_width
  pub counts : edges_from held_width rows n 0 ≡ length edges
  pub up : Ascends (ids rows held_width n)

-- row i, as the segment that it stands for
abbrev pub segment_in : List ℕ → List ℕ → ℕ → Segment
segment_in rows edges i = segment_at rows edges (i * held_width) (start_of held_width rows i)

-- the segment of a row that was found
abbrev pub segment_found : List ℕ → List ℕ → Found → Option Segment
segment_found rows edges Nothing = none
segment_found rows edges (At i) = some (segment_in rows edges i)

-- ---- at the front of the work area: n rows, then e edge words

abbrev pub image_rows : List ℕ → ℕ → List ℕ
image_rows w n = part w 0 (n * held_width)

abbrev pub image_edges : List ℕ → ℕ → ℕ → List ℕ
image_edges w n e = part w (n * held_width) e

pub record Image (w : List ℕ) (n e : ℕ) : Type 0 where
  pub room : n * held_width + e ≤ length w
  pub tabled : Tabled (image_rows w n) (image_edges w n e) n

-- the segments of the image, ascending by id
abbrev pub image_segments : List ℕ → ℕ → ℕ → List Segment
image_segments w n e = held_segments (image_rows w n) (image_edges w n e) n
