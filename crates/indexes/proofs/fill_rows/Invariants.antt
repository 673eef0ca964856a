-- `fill_rows` meets its contract: after i turns the rows of the index are the first i keys and then what was there, and `at` is where the
use Prim.Native.Nat.{◌≤◌}
use mathlib.Core.Path.{◌≡◌}
use mathlib.Core.List.{◌++◌}
use lib.ListN.{length, take, drop}
use Rattle.sorts.specs.Rows.{rows}
use Rattle.rules.specs.Tables.{row_width, start_of}
use Rattle.indexes.specs.Index.{segment_keys}
use Rattle.indexes.proofs.fill_rows.Given as goal

abbrev pub invariant-loop-i : goal.invariant-loop-i
invariant-loop-i l =
    (l.i ≤ l.n)
    × (length l.index ≡ length l.initial.index)
    × (l.at ≡ start_of row_width l.table l.i)
    × (rows l.index ≡ take l.i (segment_keys l.table l.n 0 0) ++ drop l.i (rows l.initial.index))
