-- The promise of `threshpetal_handle_update` determines its answer, the session and every lent word: two outcomes that satisfy it are equal. The other
-- calls promise an equation for the result and, where they have areas, the promise of the call they stand for.
-- Assumes nothing.
use Prim.Native.Nat.{ℕ}
use mathlib.Core.Path.{◌≡◌, sym, ◌∙◌}
use mathlib.Core.List.{List}
use Rattle.types.specs.declared.limits.DagLimits.{DagLimits}
use Rattle.types.specs.declared.records.Session.{Session}
use Rattle.types.specs.declared.records.Update.{Update}
use Rattle.rules.specs.Judge.{Tables, Areas}
use Rattle.rules.specs.Update.{Changes}
use Rattle.watch.proofs.Unique.{owed-one}
use Rattle.crossing.specs.declared.updated.UpdatedWords.{UpdatedWords}
use Rattle.host.specs.Updates.{Told}

pub told-one : (s : Session) (u : Update) (limits : DagLimits) (t : Tables) (work : List ℕ) (a : Areas) (c : Changes) (v v' : UpdatedWords) (z z' : Session)
    (w w' : List ℕ) (b b' : Areas) (l l' : Changes)
    → Told s u limits t work a c v z w b l
    → Told s u limits t work a c v' z' w' b' l'
    → (v ≡ v') × (z ≡ z') × (w ≡ w') × (b ≡ b') × (l ≡ l')
told-one s u limits t work a c v v' z z' w w' b b' l l' one two =
    let q = owed-one s u limits t work a c _ _ z z' w w' b b' l l' one.owed two.owed in
    (one.answer ∙ sym two.answer, q.1, q.2, q.3, q.4)
