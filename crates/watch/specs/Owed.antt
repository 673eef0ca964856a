-- The promise of an update: each of the answer, the session and the lent words afterwards is what the rule book's `update_after` says, from all
-- inputs. Each part is an equation, so two outcomes that satisfy it are equal.
-- Assumes nothing.
use Rattle.std.specs.Prelude.{ℕ, ◌≡◌, List}
use Rattle.answers.specs.Updates.{UpdateAnswer}
use Rattle.types.specs.declared.limits.DagLimits.{DagLimits}
use Rattle.types.specs.declared.records.Session.{Session}
use Rattle.types.specs.declared.records.Update.{Update}
use Rattle.rules.specs.Judge.{Tables, Areas}
use Rattle.rules.specs.Update.{Changes, update_after}

pub record Owed (s : Session) (u : Update) (limits : DagLimits) (t : Tables) (work : List ℕ) (a : Areas) (c : Changes) (answered : UpdateAnswer) (s' : Session) (work' : List ℕ) (a' : Areas) (c' : Changes) : Type 0 where
  pub answer : answered ≡ (update_after s u limits t work a c).answer
  pub session : s' ≡ (update_after s u limits t work a c).session
  pub cleared : work' ≡ (update_after s u limits t work a c).work
  pub areas : a' ≡ (update_after s u limits t work a c).areas
  pub lists : c' ≡ (update_after s u limits t work a c).changes
