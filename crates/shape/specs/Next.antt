-- A held row beside the one before it, so that one pass over held rows tells whether one is bad and whether their ids ascend.
-- Assumes nothing.
use Rattle.std.specs.Prelude.{ℕ, ◌-◌, Bool, ◌&&◌, ◌||◌, List, get_or, leb}
use Rattle.rules.specs.Tables.{held_width}
use Rattle.rules.specs.Shape.{bad_held_row}

-- the held row that begins at word w is bad in itself, or there is a row before it and its id is not above that row's
unfoldable pub bad_next : List ℕ → ℕ → Bool
bad_next rows w =
    bad_held_row rows w
    || (leb held_width w
    && leb (get_or rows w 0) (get_or rows (w - held_width) 0))
