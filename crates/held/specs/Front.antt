-- Held tables cut to size and judged.
-- Assumes nothing.
use Rattle.std.specs.Prelude.{◌≡◌, ◌*◌, true, false, List, take}
use Rattle.answers.specs.declared.Refusal.{Refusal}
use Rattle.answers.specs.declared.Refusal.TheVariants.{BadTable}
use Rattle.rules.specs.Model.{Segment}
use Rattle.rules.specs.Tables.{held_width, held_segments}
use Rattle.rules.specs.Shape.{bad_held}
use Rattle.held.specs.declared.HeldTables.{HeldTables}
use Rattle.held.specs.declared.Held.{Held}

-- the segments that they say, ascending by id
abbrev pub segments_of : Held → List Segment
segments_of held = held_segments held.rows.now held.edges.now held.count

-- good tables, at the front of what is lent
pub record IsFront (t : HeldTables) (held : Held) : Type 0 where
  pub good : bad_held t.rows.now t.edges.now t.count t.edge_count ≡ false
  pub rows : held.rows.now ≡ take (t.count * held_width) t.rows.now
  pub edges : held.edges.now ≡ take t.edge_count t.edges.now
  pub count : held.count ≡ t.count

-- refusal 1
pub record IsBad (t : HeldTables) (r : Refusal) : Type 0 where
  pub bad : bad_held t.rows.now t.edges.now t.count t.edge_count ≡ true
  pub refusal : r ≡ BadTable
