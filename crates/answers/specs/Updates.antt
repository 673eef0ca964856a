-- The answer of an update: refused, stale, or accepted with what it changed.
-- Assumes nothing.
use Rattle.std.specs.Prelude.{Result, Ok, Err}
use Rattle.answers.specs.declared.Refusal.{Refusal}
use Rattle.answers.specs.declared.DagDelta.{DagDelta}
use Rattle.answers.specs.declared.Updated.{Updated}
use Rattle.answers.specs.declared.Updated.TheVariants as Comes

abbrev pub UpdateAnswer : Type 0
UpdateAnswer = Result Updated Refusal

pattern abbrev pub Refused : Refusal → UpdateAnswer
Refused r = Err r

pattern abbrev pub Stale : UpdateAnswer
Stale = Ok Comes.Stale

pattern abbrev pub Accepted : DagDelta → UpdateAnswer
Accepted d = Ok (Comes.Accepted d)
