-- What the checks of an image ask of the work area: the image of the input tables lies at its front, and behind it there is room.
-- Assumes nothing.
use Rattle.std.specs.Prelude.{ℕ, ◌+◌, ◌*◌, ◌≤◌, ◌≡◌, List, length}
use Rattle.words.specs.Twins.{NoTwins}
use Rattle.rules.specs.Model.{by_id}
use Rattle.rules.specs.Tables.{row_width, held_width, edges_from, segments}
use Rattle.tabled.specs.Image.{Image, image_segments}
use Rattle.held.specs.declared.Held.{Held}
use Rattle.held.specs.Front.{segments_of}
use Rattle.ordered.specs.Left.{Closed}

-- where the scratch begins
abbrev pub behind : ℕ → ℕ → ℕ
behind n e = n * held_width + e

-- w begins with the image of input tables of n rows and e edge words, no two rows of one id
pub record Imaged (w : List ℕ) (n e : ℕ) (rows edges : List ℕ) : Type 0 where
  pub image : Image w n e
  pub same : image_segments w n e ≡ by_id (segments rows edges n)
  pub once : NoTwins rows row_width n
  pub long : n * row_width ≤ length rows
  pub counts : edges_from row_width rows n 0 ≡ length edges
  pub size : length edges ≡ e
  pub fits : behind n e + (7 * n + 1 + e) + 3 * n + 3 * e ≤ length w

-- held tables that say the segments of input tables, ascending: as many rows, no two of one id
pub record Mirrored (held : Held) (rows edges : List ℕ) : Type 0 where
  pub same : segments_of held ≡ by_id (segments rows edges held.count)
  pub once : NoTwins rows row_width held.count
  pub long : held.count * row_width ≤ length rows
  pub counts : edges_from row_width rows held.count 0 ≡ length edges

-- held tables whose every edge word is the id of a row, with a scratch that has room for the order and behind it for ranges
pub record Graphed (held : Held) (scratch : List ℕ) : Type 0 where
  pub fits : 7 * held.count + 1 + length held.edges.now + 3 * held.count + 3 * length held.edges.now ≤ length scratch
  pub closed : Closed held
