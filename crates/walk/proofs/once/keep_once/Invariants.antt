-- `keep_once` meets its contract. The invariant: the ids kept are those of the rows passed, each once (`Kept`).
use Prim.Native.Nat.{◌≤◌}
use mathlib.Core.Path.{◌≡◌}
use lib.ListN.{length, take, drop}
use Rattle.words.specs.Part.{part}
use Rattle.words.specs.Table.{ids}
use Rattle.walk.specs.Kept.{Kept}
use Rattle.walk.proofs.once.keep_once.Given as goal

abbrev pub invariant-loop-i : goal.invariant-loop-i
invariant-loop-i l =
    (l.i ≤ l.m)
    × (l.k ≤ l.i)
    × (length l.w ≡ length l.initial.w)
    × (take l.b l.w ≡ take l.b l.initial.w)
    × Kept (part l.w l.b l.k) (take l.i (ids (drop l.a l.initial.w) 3 l.m))
