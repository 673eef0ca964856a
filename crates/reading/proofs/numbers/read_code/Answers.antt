-- `reading::numbers::read_code` meets its contract, by its first byte.
use Rattle.std.proofs.Common.{sym, ◌∙◌, eqb-true}
use Rattle.std.proofs.lemmas.Bool.{eqb-false}
use Rattle.reading.proofs.Codes.{no_code, with-minus, with_none}
use Rattle.reading.proofs.numbers.read_code.Goals as goal

pub returns-then-is_empty : goal.returns-then-is_empty
returns-then-is_empty c = no_code _ (eqb-true _ _ (sym c.is_empty.ensures ∙ c.if-is_empty.true))

pub returns-then-field-eq45 : goal.returns-then-field-eq45
returns-then-field-eq45 c =
    with-minus _ _ (eqb-false _ _ (sym c.is_empty.ensures ∙ c.if-is_empty.false)) c.if-field-eq45.true c.minus_code.ensures

pub returns : goal.returns
returns c = with_none _ _ (eqb-false _ _ (sym c.is_empty.ensures ∙ c.if-is_empty.false)) c.if-field-eq45.false c.plain_code.ensures
