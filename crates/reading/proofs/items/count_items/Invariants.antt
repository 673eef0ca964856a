-- `reading::items::count_items` meets its contract. The invariant: the items counted, and the list that the rest is, make the whole list.
use Rattle.reading.proofs.Listing.{listed_from}
use mathlib.Core.Path.{◌≡◌}
use Prim.Native.Nat.{◌≤◌, ◌-◌}
use lib.ListN.{length, drop}
use Rattle.reading.specs.Lists.{items_of, numbers_of, listed}
use Rattle.reading.proofs.items.count_items.Given as goal

abbrev pub invariant-loop-n : goal.invariant-loop-n
invariant-loop-n l =
    (l.from ≤ length l.field)
    × (listed_from l.n (numbers_of (l.room - l.n) (items_of (drop l.from l.field))) ≡ listed (numbers_of l.room (items_of l.field)))
