-- `judge_rows` meets its contract. The invariant: the edges of the rows to come end where the table does, the two totals make the place where they
use Prim.Native.Nat.{◌+◌, ◌-◌}
use mathlib.Core.Path.{◌≡◌}
use lib.ListN.{length, take}
use Rattle.words.specs.Table.{ids}
use Rattle.rules.specs.Tables.{row_width, edges_from, segments, segments_from}
use Rattle.rules.specs.Rows.{rows_from, rows_rule}
use Rattle.judging.proofs.rows.judge_rows.Given as goal

abbrev pub invariant-loop-i : goal.invariant-loop-i
invariant-loop-i l = (l.at + edges_from row_width l.rows (l.n - l.i) l.i ≡ length l.edges) × (l.parents + l.children ≡ l.at) × (rows_rule l.layout l.limit (segments l.rows l.edges l.n) ≡ rows_from l.layout l.limit (take l.i (ids l.rows row_width l.n)) l.parents l.children (segments_from row_width l.rows l.edges (l.n - l.i) l.i l.at))
