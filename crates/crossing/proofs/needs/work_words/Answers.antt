use Prim.Native.Nat.{◌+◌, ◌*◌}
use native.Mathlib.Omega.{arith}
use Rattle.crossing.proofs.Capped.{capped_is}
use Rattle.crossing.proofs.needs.work_words.Goals as goal

pub returns : goal.returns
returns c = capped_is (32 * (c.args.a + c.args.b + c.args.c + c.args.d)) _ (λ h. omega (arith, c.saturating_add.ensures, c.saturating_add-2.ensures, c.saturating_add-things.ensures, c.saturating_mul.ensures)) (λ h. omega (arith, c.saturating_add.ensures, c.saturating_add-2.ensures, c.saturating_add-things.ensures, c.saturating_mul.ensures))
