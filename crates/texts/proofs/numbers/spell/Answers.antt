-- `texts::numbers::spell` meets its contract: each need is arithmetic, a law that is imported, or what a callee promised.
use native.Mathlib.Omega.{arith}
use borrow.Author.Rules.{rules}
use Rattle.texts.proofs.Digits.{none_yet}
use Rattle.texts.proofs.numbers.spell.Goals as goal

pub loop-rest-init : goal.loop-rest-init
loop-rest-init c =
    (search rules, search rules, c.requires, omega (arith, c.ranges.word.fits), none_yet c.args.space.now c.args.word c.requires)
