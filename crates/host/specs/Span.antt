-- Parents and children of a segment as start and length of their stretch of the held edges.
-- Assumes nothing.
use Rattle.std.specs.Prelude.{ℕ, List}
use Rattle.types.specs.declared.records.Side.{Side}
use Rattle.types.specs.declared.records.Side.TheVariants.{Parents, Children}
use Rattle.rules.specs.Ordering.{known_rule}
use Rattle.ordering.specs.Rows.{known_row, span_in}
use Rattle.crossing.specs.Told.{refusal_of}
use Rattle.host.specs.declared.stretch.Stretch.{Stretch}

-- the parents of a row stand first, its children after them; nothing where no row was found
abbrev pub span : Side → List ℕ → List ℕ → ℕ → ℕ → ℕ → Stretch
span side rows edges h g id =
    record {
      refusal = refusal_of (known_rule rows edges h g id);
      start = (span_in side rows (known_row rows edges h g id)).start;
      length = (span_in side rows (known_row rows edges h g id)).length;
    }

abbrev pub parent_span : List ℕ → List ℕ → ℕ → ℕ → ℕ → Stretch
parent_span = span Parents

abbrev pub child_span : List ℕ → List ℕ → ℕ → ℕ → ℕ → Stretch
child_span = span Children
