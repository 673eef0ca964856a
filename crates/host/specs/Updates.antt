-- What the call of an update promises, its answer a struct of numbers.
-- Assumes nothing.
use Rattle.std.specs.Prelude.{ℕ, ◌≡◌, List}
use Rattle.types.specs.declared.limits.DagLimits.{DagLimits}
use Rattle.types.specs.declared.records.Session.{Session}
use Rattle.types.specs.declared.records.Update.{Update}
use Rattle.rules.specs.Judge.{Tables, Areas}
use Rattle.rules.specs.Update.{Changes, update_after}
use Rattle.watch.specs.Owed.{Owed}
use Rattle.crossing.specs.declared.updated.UpdatedWords.{UpdatedWords}
use Rattle.crossing.specs.Updates.{updated_words}

-- The whole promise: the answer is the rule book's, told as a struct of numbers, and with it the session and every lent word are what `watch` owes.
pub record Told (s : Session) (u : Update) (limits : DagLimits) (t : Tables) (work : List ℕ) (a : Areas) (c : Changes) (answered : UpdatedWords) (s' : Session) (work' : List ℕ) (a' : Areas) (c' : Changes) : Type 0 where
  pub answer : answered ≡ updated_words (update_after s u limits t work a c).answer
  pub owed : Owed s u limits t work a c (update_after s u limits t work a c).answer s' work' a' c'
