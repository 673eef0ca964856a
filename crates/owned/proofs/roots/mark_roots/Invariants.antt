-- `mark_roots` meets its contract. The invariant: the ids passed have their mark (`Marked`).
use Prim.Native.Nat.{ℕ, ◌≤◌, ◌-◌}
use mathlib.Core.Path.{◌≡◌}
use lib.ListN.{length}
use Rattle.lists.specs.Lists.{tick}
use Rattle.owned.specs.Marks.{Marked, root_of}
use Rattle.owned.proofs.roots.mark_roots.Given as goal

abbrev pub invariant-loop-i : goal.invariant-loop-i
invariant-loop-i l =
    (l.i ≤ l.ids.count) × (length l.w ≡ length l.initial.w) × Marked (λ (x : ℕ). tick (root_of l.held.rows.now l.held.count x)) l.ids.from l.ids.marks l.i l.initial.w l.w
