-- `reading::numbers::read_number` meets its contract. The invariant: what is read from here on is what the whole field spells.
use Rattle.std.proofs.Common.{rules, arith, sym, ◌∙◌, eqb-true}
use Rattle.std.proofs.lemmas.Bool.{eqb-false}
use Rattle.reading.proofs.Digits.{empty, begun, turn, fault, at-end}
use Rattle.reading.proofs.numbers.read_number.Goals as goal

pub returns-then-is_empty : goal.returns-then-is_empty
returns-then-is_empty c = empty _ (eqb-true _ _ (sym c.is_empty.ensures ∙ c.if-is_empty.true))

pub loop-b-init : goal.loop-b-init
loop-b-init c = (search rules, begun _ (eqb-false _ _ (sym c.is_empty.ensures ∙ c.if-is_empty.false)))

pub returns-in_err-number : goal.returns-in_err-number
returns-in_err-number c =
    c.from_residual.ensures ∙ fault c.args.field.now c.loop-b.number c.loop-b.b-index _ _ (omega arith) c.in_err-number.was c.with_digit.ensures c.loop-b.invariant.1

pub loop-b-preserved : goal.loop-b-preserved
loop-b-preserved c = (omega arith, turn c.args.field.now c.loop-b.number c.loop-b.b-index _ _ _ (omega arith) c.in_ok-number.was c.with_digit.ensures c.loop-b.invariant.1)

pub returns : goal.returns
returns c = search at-end
