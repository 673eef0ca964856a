-- Document 01: "For any answer that is an enum, a definition gives this paper's number and values for each of its cases." What crosses to C
-- carries just these: by cases.
-- Assumes nothing.
use Prim.Native.Nat.{ℕ}
use mathlib.Core.Path.{◌≡◌, refl}
use mathlib.Core.List.{List}
use Rattle.answers.specs.declared.RefusalWords.{RefusalWords}
use Rattle.answers.specs.Verdict.{Verdict}
use Rattle.answers.specs.Verdict as E
use Rattle.answers.specs.Updates.{UpdateAnswer}
use Rattle.answers.specs.Updates as U
use Rattle.answers.proofs.Carried.{carried, told_values}
use Rattle.answers.specs.Answer.{words_by, number_of, values_of, eligibility_number, eligibility_values, updated_number, updated_values, Judged, Accepted, Refused}
use Rattle.crossing.specs.Told.{refusal_of, bar_of}
use Rattle.crossing.specs.Updates.{updated_words}

-- the words are this number and these values, and 0 past them; the values are as many of the words as the fixed table gives the number
abbrev pub Tells : RefusalWords → ℕ → List ℕ → Type 0
Tells r number values = (r ≡ words_by number values) × (told_values r ≡ values)

pub judged-tells : (j : Judged) → Tells (refusal_of j) (number_of j) (values_of j)
judged-tells Accepted = (refl, refl)
judged-tells (Refused r) = (refl, (carried r).1)

pub ordering-tells : (e : Verdict) → Tells (bar_of e) (eligibility_number e) (eligibility_values e)
ordering-tells (E.Refused r) = (refl, (carried r).1)
ordering-tells (E.Unprovable id n) = (refl, refl)
ordering-tells (E.Blocked n m) = (refl, refl)
ordering-tells E.Eligible = (refl, refl)
ordering-tells (E.BrokerManaged m) = (refl, refl)

pub update-tells : (u : UpdateAnswer) → Tells (updated_words u).refusal (updated_number u) (updated_values u)
update-tells (U.Refused r) = (refl, (carried r).1)
update-tells U.Stale = (refl, refl)
update-tells (U.Accepted d) = (refl, refl)
