-- `texts::commas::put_list` meets its contract: each need is arithmetic, a law that is imported, or what a callee promised.
use Prim.Native.Nat.{◌≤◌}
use lib.ListN.{length}
use mathlib.Core.Path.{◌≡◌}
use mathlib.Core.List.{map}
use Rattle.texts.specs.Written.{Wrote}
use Rattle.texts.specs.Decimal.{decimal}
use Rattle.texts.proofs.CommaLaws.{behind}
use Rattle.texts.proofs.commas.put_list.Given as goal

abbrev pub invariant-loop-i : goal.invariant-loop-i
invariant-loop-i l =
    (1 ≤ l.i)
    × (l.i ≤ l.n)
    × (length l.out ≡ length l.initial.out)
    × Wrote l.initial.out l.initial.p (behind (map decimal l.list) l.i) l.out l.p
