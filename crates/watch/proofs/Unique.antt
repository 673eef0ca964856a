-- The promise of an update determines its answer, the session and every lent word: two outcomes that satisfy it are equal. The by-value core and the
-- call that updates the session where it stands make the same promise.
-- Assumes nothing.
use Prim.Native.Nat.{ℕ}
use mathlib.Core.Path.{◌≡◌, sym, ◌∙◌}
use mathlib.Core.List.{List}
use Rattle.answers.specs.Updates.{UpdateAnswer}
use Rattle.types.specs.declared.limits.DagLimits.{DagLimits}
use Rattle.types.specs.declared.records.Session.{Session}
use Rattle.types.specs.declared.records.Update.{Update}
use Rattle.rules.specs.Judge.{Tables, Areas}
use Rattle.rules.specs.Update.{Changes}
use Rattle.watch.specs.Owed.{Owed}

pub owed-one : (s : Session) (u : Update) (limits : DagLimits) (t : Tables) (work : List ℕ) (a : Areas) (c : Changes) (v v' : UpdateAnswer) (z z' : Session)
    (w w' : List ℕ) (b b' : Areas) (l l' : Changes)
    → Owed s u limits t work a c v z w b l
    → Owed s u limits t work a c v' z' w' b' l'
    → (v ≡ v') × (z ≡ z') × (w ≡ w') × (b ≡ b') × (l ≡ l')
owed-one s u limits t work a c v v' z z' w w' b b' l l' one two = (
  one.answer ∙ sym two.answer,
  one.session ∙ sym two.session,
  one.cleared ∙ sym two.cleared,
  one.areas ∙ sym two.areas,
  one.lists ∙ sym two.lists,
)
