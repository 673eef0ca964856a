-- `reading::fields::letter` meets its contract, by the field's length.
use Rattle.reading.proofs.Counts.{one_byte, not-one-byte}
use Rattle.reading.proofs.fields.letter.Goals as goal

pub returns-then-field-eq1 : goal.returns-then-field-eq1
returns-then-field-eq1 c = search one_byte

pub returns-else-field-eq1 : goal.returns-else-field-eq1
returns-else-field-eq1 c = search not-one-byte
