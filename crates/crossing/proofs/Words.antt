-- Answers as structs of numbers, by the case that was met. Assumes nothing.
use Prim.Native.Nat.{ℕ}
use mathlib.Core.Path.{◌≡◌, refl, sym, ap, ◌∙◌}
use Rattle.answers.specs.declared.Refusal.{Refusal}
use Rattle.answers.specs.declared.RefusalWords.{RefusalWords}
use Rattle.answers.specs.Verdict.{Verdict}
use Rattle.crossing.specs.declared.answer.OrderingWords.{OrderingWords}
use Rattle.crossing.specs.Told.{no_refusal, refusal_of, ordering_words}
use Rattle.answers.specs.Answer.{words_of, Judged, Accepted, Refused}

pub accepted-is : (j : Judged) → j ≡ Accepted → no_refusal ≡ refusal_of j
accepted-is j e = rw e refl

pub refused-is : (j : Judged) (r : Refusal) (w : RefusalWords) → j ≡ Refused r → w ≡ words_of r → w ≡ refusal_of j
refused-is j r w e told = rw (e, told) refl

pub words-as : (v : OrderingWords) (e k : Verdict) (n : ℕ) → v ≡ ordering_words (record { eligibility = k; read = n }) → e ≡ k → v ≡ ordering_words (record { eligibility = e; read = n })
words-as v e k n said is = said ∙ ap (λ (x : Verdict). ordering_words (record { eligibility = x; read = n })) (sym is)
