use Prim.Native.Nat.{◌+◌, ◌*◌}
use native.Mathlib.Omega.{arith}
use Rattle.crossing.proofs.Capped.{capped_is}
use Rattle.crossing.proofs.needs.list_words.Goals as goal

pub returns : goal.returns
returns c = capped_is (c.args.g + 1) _ (λ h. omega (arith, c.saturating_add.ensures)) (λ h. omega (arith, c.saturating_add.ensures))
