-- The answer of an update as a struct of numbers, by the case that was met. Assumes nothing.
use Prim.Native.Nat.{ℕ}
use mathlib.Core.Path.{◌≡◌, refl, sym, ap, ◌∙◌}
use Rattle.answers.specs.declared.DagDelta.{DagDelta}
use Rattle.answers.specs.Updates.{UpdateAnswer}
use Rattle.answers.specs.Updates as U
use Rattle.crossing.specs.declared.updated.UpdatedWords.{UpdatedWords}
use Rattle.crossing.specs.Told.{no_refusal}
use Rattle.crossing.specs.Updates.{reason_number, updated_words}

pub told-as : (v : UpdatedWords) (u k : UpdateAnswer) → v ≡ updated_words k → u ≡ k → v ≡ updated_words u
told-as v u k said is = said ∙ ap updated_words (sym is)

pub accepted-as : (u : UpdateAnswer) (d : DagDelta) (reason : ℕ) → reason ≡ reason_number d.reason → u ≡ U.Accepted d
    → record { outcome = 2; refusal = no_refusal; epoch = d.epoch; added = d.added; removed = d.removed; splits = d.splits; merges = d.merges; reason = reason; handover = d.handover } ≡ updated_words u
accepted-as u d reason e is = rw (is, e) refl
