-- `texts::commas::put_pairs` meets its contract: each need is arithmetic, a law that is imported, or what a callee promised.
use Prim.Native.Nat.{◌≤◌}
use lib.ListN.{length}
use mathlib.Core.Path.{◌≡◌}
use Rattle.texts.specs.Written.{Wrote}
use Rattle.texts.specs.CommaList.{pair_texts}
use Rattle.texts.proofs.CommaLaws.{behind}
use Rattle.texts.proofs.commas.put_pairs.Given as goal

abbrev pub invariant-loop-i : goal.invariant-loop-i
invariant-loop-i l =
    (1 ≤ l.i)
    × (l.i ≤ l.n)
    × (length l.out ≡ length l.initial.out)
    × Wrote l.initial.out l.initial.p (behind (pair_texts l.mark l.pairs) l.i) l.out l.p
