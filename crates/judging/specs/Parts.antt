-- The two parts of `head_rule`, of a row's head.
-- Assumes nothing.
use Rattle.std.specs.Prelude.{ℕ}
use Rattle.types.specs.State.{state_of}
use Rattle.rules.specs.Model.{Head}
use Rattle.rules.specs.Rows.{descriptor_rule, lifecycle_rule, state_after}
use Rattle.answers.specs.Answer.{Judged}

-- 9 to 13
abbrev pub head_descriptor : Head → Judged
head_descriptor h = descriptor_rule h.id h.start h.end h.state h.legacy

-- 14 to 18
abbrev pub head_lifecycle : ℕ → Head → ℕ → Judged
head_lifecycle layout h children = lifecycle_rule layout h.id (state_after (state_of h.state)) h.created h.sealed children
