-- `raise_all` meets its contract. The invariant: the marks are raised by the ids passed (`Raised`).
use Prim.Native.Nat.{◌≤◌, ◌-◌}
use mathlib.Core.Path.{◌≡◌}
use lib.ListN.{length, take}
use Rattle.words.specs.Part.{part}
use Rattle.words.specs.Table.{Ascends}
use Rattle.owned.specs.Marks.{Raised}
use Rattle.owned.proofs.marks.raise_all.Given as goal

abbrev pub invariant-loop-x : goal.invariant-loop-x
invariant-loop-x l =
    (l.x-index ≤ length l.list)
    × (length l.w ≡ length l.initial.w)
    × Ascends (part l.w l.ids.from l.ids.count)
    × Raised (take l.x-index l.list) l.from l.to l.ids.from l.ids.marks l.ids.count l.initial.w l.w
