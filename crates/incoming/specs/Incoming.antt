-- The checks 3 to 23 of a layout, those that speak of its tables row by row; and the one work area in which they are made.
-- Assumes nothing.
use Rattle.std.specs.Prelude.{ℕ, ◌+◌, ◌*◌, ◌≤◌, ◌≡◌, List, length}
use Rattle.answers.specs.Answer.{◌then◌, Judged}
use Rattle.types.specs.declared.limits.DagLimits.{DagLimits}
use Rattle.rules.specs.Model.{Segment, Placement}
use Rattle.rules.specs.Rows.{size_rule, placements_rule, rows_rule, dangling_rule}
use Rattle.rules.specs.Tables.{row_width, held_width, place_width, edges_from}

-- the first four rules of `layout_rule`
unfoldable pub incoming_rule : ℕ → ℕ → DagLimits → List Segment → List Placement → Judged
incoming_rule epoch size limits ss ps =
    size_rule limits size (length ss) (length ps) then
    placements_rule ps then
    rows_rule epoch limits.edges ss then
    dangling_rule ss ps

-- where the index of n segment rows begins, behind the room for their image with k edge words; where that of m placement rows does; and where
-- the flags do
abbrev pub first_at : ℕ → ℕ → ℕ
first_at n k = n * held_width + k

abbrev pub second_at : ℕ → ℕ → ℕ
second_at n k = first_at n k + 3 * n

abbrev pub flags_at : ℕ → ℕ → ℕ → ℕ
flags_at n k m = second_at n k + 3 * m

-- tables that are not bad, of n and m rows, and a work area with room for the image, both indexes, and a flag a row
pub record Given (w rows : List ℕ) (n : ℕ) (edges places : List ℕ) (m : ℕ) : Type 0 where
  pub segments : n * row_width ≤ length rows
  pub links : edges_from row_width rows n 0 ≡ length edges
  pub placements : m * place_width ≤ length places
  pub room : n * held_width + length edges + 3 * n + 3 * m + n + m ≤ length w
