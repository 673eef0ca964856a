-- `meet_parents` meets its contract. The invariant: the parents to come, from what is met so far, give what all of them give (`Passing`).
use Prim.Native.Nat.{◌≤◌}
use mathlib.Core.Path.{◌≡◌}
use lib.ListN.{length}
use Rattle.words.specs.Table.{ids}
use Rattle.rules.specs.Tables.{held_width}
use Rattle.walk.proofs.Turns.{Passing}
use Rattle.walk.proofs.climb.meet_parents.Given as goal

abbrev pub invariant-loop-j : goal.invariant-loop-j
invariant-loop-j l =
    (l.j ≤ length l.parents)
    × (l.l.met ≤ l.held.count)
    × (length l.w ≡ length l.initial.w)
    × Passing (ids l.held.rows.now held_width l.held.count) l.parents l.held.count l.initial.l.met l.initial.l.bare l.initial.w l.j l.l.met l.l.bare l.w
