-- What is asked of held tables as they are lent.
-- Assumes nothing.
use Rattle.std.specs.Prelude.{ℕ, List, length}
use Rattle.types.specs.declared.lent.History.{History}
use Rattle.types.specs.declared.lent.Lists.{Lists}
use Rattle.types.specs.declared.records.OrderingMode.{OrderingMode}
use Rattle.rules.specs.Ordering.{Lent, Asked, query}
use Rattle.held.specs.declared.HeldTables.{HeldTables}

-- the query of the rule book
abbrev pub asked : HeldTables → OrderingMode → ℕ → History → Lent → Asked
asked t mode id history lent = query t.rows.now t.edges.now t.count t.edge_count mode id history.owned.now history.completed.now lent

-- the work area and the two lists
abbrev pub lent_of : List ℕ → Lists → Lent
lent_of work lists = record { work = length work; first = lists.first.now; second = lists.second.now }
