-- `list_reached` meets its contract. The invariant: of the rows passed, the ids of those that were reached are listed.
use Prim.Native.Nat.{◌≤◌}
use mathlib.Core.Path.{◌≡◌}
use lib.ListN.{length, take}
use Rattle.words.specs.Part.{part}
use Rattle.words.specs.Table.{ids}
use Rattle.rules.specs.Tables.{held_width}
use Rattle.walk.specs.Met.{marks_in, reached}
use Rattle.walk.proofs.reached.list_reached.Given as goal

abbrev pub invariant-loop-i : goal.invariant-loop-i
invariant-loop-i l =
    (l.i ≤ l.held.count)
    × (l.k ≤ l.i)
    × (length l.w ≡ length l.initial.w)
    × (take l.b l.w ≡ take l.b l.initial.w)
    × (part l.w l.b l.k ≡ reached (ids l.held.rows.now held_width l.held.count) (marks_in l.held.count l.initial.w) l.i)
