use Prim.Native.Nat.{◌+◌, ◌*◌}
use native.Mathlib.Omega.{arith}
use Rattle.crossing.proofs.Capped.{capped_is}
use Rattle.crossing.proofs.needs.pair_words.Goals as goal

pub returns : goal.returns
returns c = capped_is (2 * c.args.k) _ (λ h. omega (arith, c.saturating_mul.ensures)) (λ h. omega (arith, c.saturating_mul.ensures))
