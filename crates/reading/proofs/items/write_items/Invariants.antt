-- `reading::items::write_items` meets its contract. The invariant: the words written, and those that the rest puts behind them, are all that the field puts there.
use mathlib.Core.Path.{◌≡◌}
use mathlib.Core.List.{◌++◌}
use Prim.Native.Nat.{◌≤◌, ◌-◌}
use lib.ListN.{length, take, drop}
use Rattle.reading.specs.Lists.{items_of, front}
use Rattle.reading.proofs.items.write_items.Given as goal

abbrev pub invariant-loop-n : goal.invariant-loop-n
invariant-loop-n l =
    (l.from ≤ length l.field)
    × (l.n ≤ length l.words)
    × (length l.words ≡ length l.initial.words)
    × (drop l.n l.words ≡ drop l.n l.initial.words)
    × (take l.n l.words ++ front (length l.words - l.n) (items_of (drop l.from l.field)) ≡ front (length l.initial.words) (items_of l.field))
