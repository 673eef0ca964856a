-- The judge's promise determines its answer and every lent word: two outcomes that satisfy it are equal.
-- Assumes nothing.
use Prim.Native.Nat.{ℕ}
use mathlib.Core.Path.{◌≡◌, sym, ◌∙◌}
use mathlib.Core.List.{List}
use Rattle.types.specs.declared.limits.DagLimits.{DagLimits}
use Rattle.rules.specs.Judge.{Tables, Areas}
use Rattle.layout.specs.Lent.{Owed}
use Rattle.answers.specs.Answer.{Judged}

pub owed-one : (epoch size : ℕ) (limits : DagLimits) (t : Tables) (work : List ℕ) (a : Areas) (v v' : Judged) (w w' : List ℕ) (b b' : Areas)
    → Owed epoch size limits t work a v w b → Owed epoch size limits t work a v' w' b' → (v ≡ v') × (w ≡ w') × (b ≡ b')
owed-one epoch size limits t work a v v' w w' b b' p q = (p.answer ∙ sym q.answer, p.cleared ∙ sym q.cleared, p.areas ∙ sym q.areas)
