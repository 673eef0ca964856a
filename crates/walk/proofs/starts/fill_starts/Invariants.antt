-- `fill_starts` meets its contract. The invariant: the rows passed have their word, and `at` is where the edges of the next begin.
use Prim.Native.Nat.{◌≤◌}
use mathlib.Core.Path.{◌≡◌}
use lib.ListN.{length}
use Rattle.rules.specs.Tables.{held_width, start_of}
use Rattle.walk.specs.Met.{StartsIn}
use Rattle.walk.proofs.starts.fill_starts.Given as goal

abbrev pub invariant-loop-i : goal.invariant-loop-i
invariant-loop-i l =
    (l.i ≤ l.n) × (length l.w ≡ length l.initial.w) × (l.at ≡ start_of held_width l.rows l.i) × StartsIn l.rows l.i l.w
