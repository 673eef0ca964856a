-- `edges::judge_links` meets its contract: each need is arithmetic, a law that is imported, or what a callee promised.
use Prim.Native.Nat.{◌-◌, ◌≤◌}
use mathlib.Core.Path.{◌≡◌}
use Rattle.rules.specs.Tables.{held_width, start_of}
use Rattle.edges.specs.Links.{rows_links}
use Rattle.edges.proofs.judge_links.Given as goal

abbrev pub invariant-loop-i : goal.invariant-loop-i
invariant-loop-i l =
    (l.i ≤ l.n) × (l.at ≡ start_of held_width l.table l.i) × (rows_links l.table l.edges l.n l.cpairs l.ppairs l.n 0 0 ≡ rows_links l.table l.edges l.n l.cpairs l.ppairs (l.n - l.i) l.i l.at)
