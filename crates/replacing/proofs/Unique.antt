-- The promise of a replacement determines its answer and every lent word: two outcomes that satisfy it are equal.
-- Assumes nothing.
use Prim.Native.Nat.{ℕ}
use mathlib.Core.Path.{◌≡◌, sym, ◌∙◌}
use mathlib.Core.List.{List}
use Rattle.answers.specs.Updates.{UpdateAnswer}
use Rattle.types.specs.declared.limits.DagLimits.{DagLimits}
use Rattle.rules.specs.Judge.{Tables, Areas}
use Rattle.rules.specs.Update.{Changes}
use Rattle.replacing.specs.Lent.{Replaced}

pub replaced-one : (h g epoch size : ℕ) (limits : DagLimits) (t : Tables) (work : List ℕ) (a : Areas) (c : Changes) (v v' : UpdateAnswer)
    (w w' : List ℕ) (b b' : Areas) (l l' : Changes)
    → Replaced h g epoch size limits t work a c v w b l
    → Replaced h g epoch size limits t work a c v' w' b' l'
    → (v ≡ v') × (w ≡ w') × (b ≡ b') × (l ≡ l')
replaced-one h g epoch size limits t work a c v v' w w' b b' l l' p q =
    (p.answer ∙ sym q.answer, p.cleared ∙ sym q.cleared, p.areas ∙ sym q.areas, p.lists ∙ sym q.lists)
