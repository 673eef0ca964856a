-- The layout judge over lent tables: answer, and every lent word at exit, from all inputs at entry.
-- "Refusals change no lent word, .. and the work area is all zero after any call that got past 2." "In every call and area but work,
-- words past the new contents stay."
-- Assumes nothing.
use Rattle.std.specs.Prelude.{ℕ, ◌/◌, Bool, cond, not, ◌&&◌, List, length, replicate}
use Rattle.lists.specs.Lists.{front}
use Rattle.answers.specs.Answer.{when, ◌then◌, Judged, Accepted, Refused}
use Rattle.types.specs.declared.limits.DagLimits.{DagLimits}
use Rattle.rules.specs.Model.{Segment, Placement}
use Rattle.rules.specs.Tables.{row_width, place_width, segments, placements, held_rows, held_edges}
use Rattle.rules.specs.Shape.{bad_layout}
use Rattle.rules.specs.Room.{no_room_to_judge}
use Rattle.rules.specs.Order.{order_of, order_words}
use Rattle.rules.specs.Layout.{layout_rule}
use Rattle.answers.specs.declared.Refusal.TheVariants.{BadTable, NoRoom}

-- the input tables of a layout
pub record Tables : Type 0 where
  pub rows : List ℕ
  pub edges : List ℕ
  pub places : List ℕ

abbrev pub segments_in : Tables → List Segment
segments_in t = segments t.rows t.edges (length t.rows / row_width)

abbrev pub placements_in : Tables → List Placement
placements_in t = placements t.places (length t.places / place_width)

-- the areas that an accepted layout fills
pub record Areas : Type 0 where
  pub held : List ℕ
  pub links : List ℕ
  pub order : List ℕ

-- 2: the work area, of `work` words, or an area that an accepted layout fills is short of its need
abbrev pub short_to_judge : Tables → ℕ → Areas → Bool
short_to_judge t work a =
    no_room_to_judge work (length a.held) (length a.links) (length a.order) (length t.rows / row_width) (length t.places / place_width) (length t.edges)

-- 1, 2, 3 to 35; `work` is the length of the work area
unfoldable pub judgement : ℕ → ℕ → DagLimits → Tables → ℕ → Areas → Judged
judgement epoch size limits t work a =
    when (bad_layout t.rows t.edges t.places) (Refused BadTable) then
    when (short_to_judge t work a) (Refused NoRoom) then
    layout_rule epoch size limits (segments_in t) (placements_in t)

-- what is held once the layout is accepted
unfoldable pub filled : DagLimits → Tables → Areas → Areas
filled limits t a =
    record {
      held = front (held_rows (segments_in t) (placements_in t)) a.held;
      links = front (held_edges (segments_in t) (placements_in t)) a.links;
      order = front (order_words (order_of limits.depth (segments_in t))) a.order;
    }

-- a refusal leaves what is lent as it was: one area, or all
abbrev pub areas_after : {A : Type 0} → Judged → A → A → A
areas_after Accepted new old = new
areas_after (Refused r) new old = old

-- the call got past 1 and 2
unfoldable pub past_room : Tables → ℕ → Areas → Bool
past_room t work a =
    not (bad_layout t.rows t.edges t.places) && not (short_to_judge t work a)

-- 1 and 2 leave the work area as it was; past them it is all zero
abbrev pub cleared_if : Bool → List ℕ → List ℕ
cleared_if past work = cond past (replicate (length work) 0) work

abbrev pub work_after : Tables → List ℕ → Areas → List ℕ
work_after t work a = cleared_if (past_room t (length work) a) work
