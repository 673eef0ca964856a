-- `texts::commas::put_list` meets its contract: each need is arithmetic, a law that is imported, or what a callee promised.
use mathlib.Core.Path.{sym}
use mathlib.Core.List.{map}
use native.Mathlib.Omega.{arith}
use borrow.Author.Rules.{rules}
use Rattle.texts.proofs.Writing.{on, said}
use Rattle.texts.specs.Decimal.{decimal}
use Rattle.texts.specs.CommaList.{listed}
use Rattle.texts.proofs.CommaLaws.{next-text, commas-none, commas-done, numbers-length, number_at}
use Rattle.texts.proofs.commas.put_list.Goals as goal

pub returns-then-n-eq0 : goal.returns-then-n-eq0
unfolding listed
returns-then-n-eq0 c =
    said
    (commas-none (map decimal c.args.list.now) c.args.count c.min-n.result (omega (arith, numbers-length c.args.list.now, c.min-n.ensures)) (search rules))
    c.put_byte.ensures

pub loop-i-preserved : goal.loop-i-preserved
loop-i-preserved c = (
  search rules,
  search rules,
  search rules,
  next-text (map decimal c.args.list.now) c.loop-i.i (decimal 0) (omega arith)
      (omega (arith, numbers-length c.args.list.now, c.min-n.ensures)) (number_at c.args.list.now c.loop-i.i) c.loop-i.invariant.3
      c.put_byte-p.ensures c.put_number-p-in-loop-i.ensures,
)

pub returns : goal.returns
unfolding listed
returns c =
    said
    (commas-done (map decimal c.args.list.now) c.args.count c.loop-i.i (decimal 0)
    (omega (arith, numbers-length c.args.list.now, c.min-n.ensures)) (omega arith))
    (on (said (sym (number_at c.args.list.now 0)) c.put_number-p.ensures) c.loop-i.invariant.3)
