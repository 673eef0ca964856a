-- What held tables say of an id by its row.
-- Assumes nothing.
use Rattle.std.specs.Prelude.{ℕ, ◌+◌, cond, Result, Ok, Err, List}
use Rattle.words.specs.Table.{ids, where_is, Found, At, Nothing}
use Rattle.answers.specs.declared.Refusal.{Refusal}
use Rattle.answers.specs.Answer.{Judged, Accepted, Refused}
use Rattle.types.specs.declared.records.Side.{Side}
use Rattle.types.specs.declared.records.Side.TheVariants.{Parents, Children}
use Rattle.rules.specs.Tables.{held_width}
use Rattle.rules.specs.Shape.{bad_held}
use Rattle.rules.specs.Ordering.{known_rule, parent_stretch, child_stretch}
use Rattle.held.specs.declared.HeldTables.{HeldTables}
use Rattle.held.specs.declared.Span.{Span}
use Rattle.held.specs.Spans.{span_of}

-- the row of an id, where the tables are good
unfoldable pub known_row : List ℕ → List ℕ → ℕ → ℕ → ℕ → Found
known_row rows edges h g id = cond (bad_held rows edges h g) Nothing (where_is (ids rows held_width h) id)

-- 1, 50
abbrev pub known : HeldTables → ℕ → Judged
known t id = known_rule t.rows.now t.edges.now t.count t.edge_count id

-- parents or children, as the stretch of the rule book
abbrev pub stretch_of : Side → HeldTables → ℕ → List ℕ
stretch_of Parents t id = parent_stretch t.rows.now t.edges.now t.count t.edge_count id
stretch_of Children t id = child_stretch t.rows.now t.edges.now t.count t.edge_count id

-- where they stand; nothing where no row was found
abbrev pub span_in : Side → List ℕ → Found → Span
span_in side rows (At r) = span_of side rows r
span_in side rows Nothing = record { start = 0; length = 0 }

abbrev pub span_after : Judged → Span → Result Span Refusal
span_after Accepted span = Ok span
span_after (Refused r) span = Err r

abbrev pub span_rule : Side → HeldTables → ℕ → Result Span Refusal
span_rule side t id = span_after (known t id) (span_in side t.rows.now (known_row t.rows.now t.edges.now t.count t.edge_count id))
