-- `reading::spans::end_of` meets its contract. The invariant: the part ends at the same place, seen from here.
use mathlib.Core.Path.{◌≡◌}
use Prim.Native.Nat.{◌+◌, ◌≤◌, max}
use lib.ListN.{length, drop}
use Rattle.reading.specs.Fields.{up_to}
use Rattle.reading.proofs.spans.end_of.Given as goal

abbrev pub invariant-loop-i : goal.invariant-loop-i
invariant-loop-i l =
    (l.i ≤ max l.from (length l.text))
    × (l.i + up_to l.separator (drop l.i l.text) ≡ l.from + up_to l.separator (drop l.from l.text))
