-- `mark_pairs` meets its contract: after p turns the flags are those that the first p rows of the index mark, and nothing else has changed.
use Prim.Native.Nat.{◌≤◌, ◌*◌}
use mathlib.Core.Path.{◌≡◌}
use lib.ListN.{length, take}
use Rattle.words.specs.Part.{part, put}
use Rattle.sorts.specs.Rows.{rows}
use Rattle.indexes.specs.Marks.{paired}
use Rattle.indexes.proofs.twins.mark_pairs.Given as goal

abbrev pub invariant-loop-p : goal.invariant-loop-p
invariant-loop-p l =
    (1 ≤ l.p)
    × (length l.w ≡ length l.initial.w)
    × (l.w ≡ put l.initial.w l.to l.n (paired (take l.p (rows (part l.initial.w l.at (3 * l.n)))) (part l.initial.w l.to l.n)))
