-- What an ordering query says of a segment: the refusal, or whether it may be read.
-- Assumes nothing.
use Rattle.std.specs.Prelude.{ℕ, Result, Ok, Err}
use Rattle.answers.specs.declared.Refusal.{Refusal}
use Rattle.answers.specs.declared.Eligibility.{Eligibility}
use Rattle.answers.specs.declared.Eligibility.TheVariants as E

abbrev pub Verdict : Type 0
Verdict = Result Eligibility Refusal

-- its cases by name
pattern abbrev pub Refused : Refusal → Verdict
Refused r = Err r

pattern abbrev pub Unprovable : ℕ → ℕ → Verdict
Unprovable id n = Ok (E.Unprovable id n)

pattern abbrev pub Blocked : ℕ → ℕ → Verdict
Blocked n m = Ok (E.Blocked n m)

pattern abbrev pub Eligible : Verdict
Eligible = Ok E.Eligible

pattern abbrev pub BrokerManaged : ℕ → Verdict
BrokerManaged m = Ok (E.BrokerManaged m)
