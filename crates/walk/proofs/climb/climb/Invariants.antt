-- `climb` meets its contract. The invariant: of the rows met the first q were expanded (`Reached`). Rows are met once, so n - q falls.
use Prim.Native.Nat.{◌+◌, ◌*◌, ◌≤◌, ◌-◌}
use mathlib.Core.Path.{◌≡◌}
use lib.ListN.{length}
use Rattle.walk.specs.Met.{met_in, StartsIn}
use Rattle.walk.proofs.Reach.{Reached}
use Rattle.walk.proofs.climb.climb.Given as goal

abbrev pub invariant-loop-q : goal.invariant-loop-q
invariant-loop-q l =
    (l.q ≤ l.t.met)
    × (l.t.met ≤ l.held.count)
    × (l.m ≤ length l.held.edges.now)
    × (length l.w ≡ length l.initial.w)
    × (32 * (length l.held.edges.now + l.held.count) ≤ length l.w)
    × StartsIn l.held.rows.now l.held.count l.w
    × Reached l.held.rows.now l.held.edges.now l.held.count l.a l.q l.m (met_in l.held.count l.t.met l.t.bare l.w)

abbrev pub decreases-loop-q : goal.decreases-loop-q
decreases-loop-q l = l.held.count - l.q
