-- The descriptor call's judgement over the row's words one by one, as the code reads them; proofs/Descriptors shows it to be the rule's.
-- Assumes nothing.
use Rattle.std.specs.Prelude.{ℕ, Bool, ◌||◌}
use Rattle.answers.specs.Answer.{when, ◌then◌, Judged, Refused}
use Rattle.types.specs.declared.records.Optional.{Optional}
use Rattle.rules.specs.Tables.{optional}
use Rattle.rules.specs.Shape.{bad_flag, bad_hash}
use Rattle.rules.specs.Rows.{descriptor_rule}
use Rattle.rules.specs.Descriptor.{Placed, bad_placed, joined_rule}
use Rattle.answers.specs.declared.Refusal.TheVariants.{BadTable}

-- start, end, state, the seal's flag, the legacy flag
unfoldable pub bad_words : ℕ → ℕ → ℕ → ℕ → ℕ → Bool
bad_words start end state sealed legacy =
    bad_hash start
    || (bad_hash end
    || (bad_hash state
    || (bad_flag sealed
    || bad_flag legacy)))

-- 36, then 9 to 13
unfoldable pub joined_descriptor : ℕ → ℕ → ℕ → ℕ → Optional → Placed → Judged
joined_descriptor id start end state legacy placed =
    joined_rule id placed then
    descriptor_rule id start end state (optional legacy.flag legacy.word)

-- 1 before them
unfoldable pub words_rule : ℕ → ℕ → ℕ → ℕ → ℕ → Optional → Placed → Judged
words_rule id start end state sealed legacy placed =
    when (bad_words start end state sealed legacy.flag || bad_placed placed) (Refused BadTable) then
    joined_descriptor id start end state legacy placed
