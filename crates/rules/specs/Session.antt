-- The watch session between updates, as `DagWatchSession` of the Rust has it: a new one, and what it holds. Held rows are lent; those that refusal 1
-- names hold nothing. Assumes nothing.
use Rattle.std.specs.Prelude.{ℕ, Bool, false, not, cond, ◌&&◌, List}
use Rattle.lists.specs.Lists.{has}
use Rattle.words.specs.Table.{ids, where_is, Found, Nothing}
use Rattle.types.specs.declared.records.Name.{Name}
use Rattle.types.specs.declared.records.Session.{Session}
use Rattle.rules.specs.Tables.{held_width}
use Rattle.rules.specs.Shape.{bad_held_rows}
use Rattle.rules.specs.Update.{held_count}

abbrev pub no_name : Name
no_name = record { present = false; text = 0 }

-- before the first update: nothing is held, no name is known
abbrev pub new_session : ℕ → Session
new_session id =
    record { id = id; held = false; epoch = 0; rows = 0; edges = 0; resolved = no_name; controller = no_name; secure = no_name }

-- the held row of a segment, by its number
unfoldable pub row_of_segment : Session → List ℕ → ℕ → Found
row_of_segment s rows id = cond (bad_held_rows rows (held_count s)) Nothing (where_is (ids rows held_width (held_count s)) id)

unfoldable pub contains_segment : Session → List ℕ → ℕ → Bool
contains_segment s rows id = not (bad_held_rows rows (held_count s)) && has id (ids rows held_width (held_count s))
