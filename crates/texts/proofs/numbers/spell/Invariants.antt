-- `texts::numbers::spell` meets its contract: each need is arithmetic, a law that is imported, or what a callee promised.
use mathlib.Core.Path.{◌≡◌}
use lib.ListN.{length, drop}
use Prim.Native.Nat.{◌≤◌, ◌<◌, ◌^◌}
use Rattle.texts.specs.Decimal.{digits_before, decimal}
use Rattle.texts.proofs.numbers.spell.Given as goal

abbrev pub invariant-loop-rest : goal.invariant-loop-rest
invariant-loop-rest l = (1 ≤ l.i) × (l.i ≤ 20) × (length l.space ≡ 20) × (l.rest < 10 ^ l.i) × (digits_before l.i l.rest (drop l.i l.space) ≡ decimal l.word)

abbrev pub decreases-loop-rest : goal.decreases-loop-rest
decreases-loop-rest l = l.rest
