-- `printing::refusals::put_values` meets its contract: each need is arithmetic, a law that is imported, or what a callee promised.
use native.Mathlib.Omega.{arith}
use borrow.Author.Rules.{rules}
use Rattle.texts.proofs.Writing.{nothing, on, said}
use Rattle.printing.proofs.LineLaws.{values-none, values-some}
use Rattle.printing.proofs.refusals.put_values.Goals as goal

pub returns-then-carried-eq0 : goal.returns-then-carried-eq0
returns-then-carried-eq0 c =
    said
    (values-none c.args.r c.kind_of-carried.result c.kind_of-carried.ensures (search rules))
    (nothing c.args.out.now c.args.at c.put_nothing.result c.put_nothing.ensures)

pub returns : goal.returns
returns c =
    said
    (values-some c.args.r c.kind_of-carried.result c.kind_of-carried.ensures (omega arith))
    (on c.field_first-p.ensures (on c.field_value-q.ensures (on c.field_value-s.ensures c.field_value.ensures)))
