-- What the judgement of a layout asks of the tables and of the work area once 1 and 2 have passed, and what it leaves in the work area where it accepts.
-- Assumes nothing.
use Rattle.std.specs.Prelude.{ℕ, ◌+◌, ◌*◌, ◌/◌, ◌≤◌, ◌≡◌, List, length}
use Rattle.lists.specs.Lists.{front}
use Rattle.words.specs.Part.{part}
use Rattle.words.specs.Twins.{NoTwins}
use Rattle.rules.specs.Model.{Segment, by_id}
use Rattle.rules.specs.Tables.{row_width, held_width, place_width, edges_from, held_rows, held_edges}
use Rattle.answers.specs.Answer.{◌then◌, Judged}
use Rattle.rules.specs.Edges.{edges_rule}
use Rattle.rules.specs.Order.{order_of, order_words, order_rule}
use Rattle.rules.specs.Tiling.{transitions_rule, active_of, coverage_rule}
use Rattle.rules.specs.Judge.{Tables, Areas, segments_in, placements_in}
use Rattle.tabled.specs.Image.{Image, image_rows, image_edges, image_segments}
use Rattle.image.specs.Written.{Ready}

-- how many segment rows come, how many placement rows, and how many edge words
abbrev pub row_count : Tables → ℕ
row_count t = length t.rows / row_width

abbrev pub place_count : Tables → ℕ
place_count t = length t.places / place_width

abbrev pub edge_count : Tables → ℕ
edge_count t = length t.edges

-- the rows count the edge words that come
abbrev pub Counted : Tables → Type 0
Counted t = edges_from row_width t.rows (row_count t) 0 ≡ edge_count t

-- a work area of so many words has room to judge them
abbrev pub HasWork : Tables → ℕ → Type 0
HasWork t work = 32 * (row_count t + place_count t + edge_count t) ≤ work

-- what is left of 1 and 2 where tables are judged
pub record Fit (t : Tables) (work : ℕ) : Type 0 where
  pub counts : Counted t
  pub room : HasWork t work

-- how many words the image of a layout has: its held rows and its edges
abbrev pub image_len : ℕ → ℕ → ℕ
image_len n e = n * held_width + e

-- tables that have passed 3 to 23, and behind the image's place their indexes
pub record Indexed (w : List ℕ) (t : Tables) : Type 0 where
  pub counts : Counted t
  pub no-twins : NoTwins t.rows row_width (row_count t)
  pub ready : Ready w t.rows (row_count t) t.places (place_count t) (image_len (row_count t) (edge_count t)) (image_len (row_count t) (edge_count t) + 3 * row_count t)

-- 24 to 35 of a layout
unfoldable pub graph_chain : ℕ → List Segment → Judged
graph_chain depth ss = edges_rule ss then (order_rule depth ss then transitions_rule ss then coverage_rule (active_of ss))

-- where the order list stands in the work area
abbrev pub order_at : ℕ → ℕ → ℕ
order_at n e = n * held_width + e + 4 * n

-- the image of the layout at the front
pub record ImageOf (w : List ℕ) (t : Tables) : Type 0 where
  pub image : Image w (row_count t) (edge_count t)
  pub segments : image_segments w (row_count t) (edge_count t) ≡ by_id (segments_in t)
  pub rows : image_rows w (row_count t) ≡ held_rows (segments_in t) (placements_in t)
  pub edges : image_edges w (row_count t) (edge_count t) ≡ held_edges (segments_in t) (placements_in t)

-- and behind it the order list
pub record LaidOut (w : List ℕ) (t : Tables) (depth : ℕ) : Type 0 where
  pub imaged : ImageOf w t
  pub order : part w (order_at (row_count t) (edge_count t)) (row_count t) ≡ order_words (order_of depth (segments_in t))
  pub order-in : order_at (row_count t) (edge_count t) + row_count t ≤ length w

-- ---- what is held then

-- n rows with e edge words, and their order, fit in the areas
pub record Holds (n e : ℕ) (a : Areas) : Type 0 where
  pub rows : n * held_width ≤ length a.held
  pub edges : e ≤ length a.links
  pub order : n ≤ length a.order

-- the layout of n rows and e edge words at the front of w, and its order, at the front of the areas
abbrev pub stored_from : List ℕ → ℕ → ℕ → Areas → Areas
stored_from w n e a =
    record {
      held = front (image_rows w n) a.held;
      links = front (image_edges w n e) a.links;
      order = front (part w (order_at n e) n) a.order;
    }
