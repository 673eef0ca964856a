-- `list_marked` meets its contract. The invariant: the list holds the ids passed that have the mark, and its rest stayed (`Written`).
use Prim.Native.Nat.{◌≤◌, ◌-◌}
use mathlib.Core.Path.{◌≡◌}
use lib.ListN.{length}
use Rattle.owned.specs.Marks.{with_mark}
use Rattle.owned.proofs.Written.{Written}
use Rattle.owned.proofs.by_mark.list_marked.Given as goal

abbrev pub invariant-loop-i : goal.invariant-loop-i
invariant-loop-i l =
    (l.i ≤ l.ids.count) × (l.len ≤ l.i) × (length l.list ≡ length l.initial.list) × Written (with_mark l.w l.ids.from l.ids.marks l.mark l.i) l.len l.list l.initial.list
