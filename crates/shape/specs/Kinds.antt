-- The tables by what their rows are: how wide a row is, and when it is bad.
-- Assumes nothing.
use Rattle.std.specs.Prelude.{ℕ, Bool, List}
use Rattle.rules.specs.Tables.{row_width, held_width, place_width}
use Rattle.rules.specs.Shape.{bad_head, bad_place}
use Rattle.shape.specs.declared.rows.Kind.{Kind}
use Rattle.shape.specs.declared.rows.Kind.TheVariants.{Segment, Place, Held}
use Rattle.shape.specs.Next.{bad_next}

abbrev pub width_of : Kind → ℕ
width_of Segment = row_width
width_of Place = place_width
width_of Held = held_width

abbrev pub bad_row : Kind → List ℕ → ℕ → Bool
bad_row Segment = bad_head
bad_row Place = bad_place
bad_row Held = bad_next
