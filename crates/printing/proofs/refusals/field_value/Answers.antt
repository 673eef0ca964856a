-- `printing::refusals::field_value` meets its contract: each need is arithmetic, a law that is imported, or what a callee promised.
use borrow.Author.Rules.{rules}
use Rattle.texts.proofs.Writing.{nothing, said}
use Rattle.printing.proofs.LineLaws.{carries-it, carries-none}
use Rattle.texts.specs.Decimal.{decimal}
use Rattle.printing.proofs.refusals.field_value.Goals as goal

pub returns-then-place-carried : goal.returns-then-place-carried
returns-then-place-carried c =
    said
    (carries-it c.args.place c.args.carried (decimal c.args.value) (search rules))
    c.field_number.ensures

pub returns : goal.returns
returns c =
    said
    (carries-none c.args.place c.args.carried (decimal c.args.value) (search rules))
    (nothing c.args.out.now c.args.at c.put_nothing.result c.put_nothing.ensures)
