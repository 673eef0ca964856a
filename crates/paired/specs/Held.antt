-- The ids of held rows.
-- Assumes nothing.
use Rattle.std.specs.Prelude.{ℕ, List}
use Rattle.paired.specs.Tables.{ids_in}
use Rattle.paired.specs.declared.rows.HeldRows.{HeldRows}

-- ascending
abbrev pub ids_held : HeldRows → List ℕ
ids_held held = ids_in held.rows.now held.count
