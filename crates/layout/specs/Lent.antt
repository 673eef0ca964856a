-- The lent words of the judge, as the rule book's records, and what it promises of them.
-- Assumes nothing.
use Rattle.std.specs.Prelude.{ℕ, List, ◌≡◌, length}
use Rattle.types.specs.declared.limits.DagLimits.{DagLimits}
use Rattle.rules.specs.Judge.{Tables, Areas, judgement, filled, areas_after, work_after}
use Rattle.answers.specs.Answer.{Judged}

abbrev pub tables_of : List ℕ → List ℕ → List ℕ → Tables
tables_of rows edges places = record { rows = rows; edges = edges; places = places }

abbrev pub areas_of : List ℕ → List ℕ → List ℕ → Areas
areas_of held links order = record { held = held; links = links; order = order }

-- The judge's whole promise: the answer, and every lent word afterwards, from all inputs. Each part is an equation, so two answers that satisfy it are equal.
pub record Owed (epoch size : ℕ) (limits : DagLimits) (t : Tables) (work : List ℕ) (a : Areas) (answered : Judged) (work' : List ℕ) (a' : Areas) : Type 0 where
  pub answer : answered ≡ judgement epoch size limits t (length work) a
  pub cleared : work' ≡ work_after t work a
  pub areas : a' ≡ areas_after (judgement epoch size limits t (length work) a) (filled limits t a) a
