-- Each answer that is an enum, told as a struct of numbers that crosses to C.
-- Assumes nothing.
use Rattle.std.specs.Prelude.{ℕ}
use Rattle.answers.specs.Answer.{words_by, words_of, eligibility_number, eligibility_values, Judged, Accepted, Refused}
use Rattle.answers.specs.declared.RefusalWords.{RefusalWords}
use Rattle.answers.specs.Verdict.{Verdict}
use Rattle.answers.specs.Verdict as E
use Rattle.answers.specs.declared.Ordering.{Ordering}
use Rattle.crossing.specs.declared.answer.OrderingWords.{OrderingWords}

-- nothing is refused
abbrev pub no_refusal : RefusalWords
no_refusal = record { number = 0; a = 0; b = 0; c = 0; d = 0 }

-- "A refusal: its number in document 01 and up to four values"; 0 and zeros where accepted
abbrev pub refusal_of : Judged → RefusalWords
refusal_of Accepted = no_refusal
refusal_of (Refused r) = words_of r

-- 0 refused, 1 blocked, 2 eligible, 3 broker-managed
abbrev pub outcome_of : Verdict → ℕ
outcome_of (E.Refused r) = 0
outcome_of (E.Unprovable id n) = 0
outcome_of (E.Blocked n m) = 1
outcome_of E.Eligible = 2
outcome_of (E.BrokerManaged m) = 3

-- 51 carries the segment; its list stands in the first ordering list
abbrev pub bar_of : Verdict → RefusalWords
bar_of (E.Refused r) = words_of r
bar_of (E.Unprovable id n) = words_by (eligibility_number (E.Unprovable id n)) (eligibility_values (E.Unprovable id n))
bar_of (E.Blocked n m) = no_refusal
bar_of E.Eligible = no_refusal
bar_of (E.BrokerManaged m) = no_refusal

-- how many ids stand at the front of the first list, and of the second
abbrev pub first_count : Verdict → ℕ
first_count (E.Refused r) = 0
first_count (E.Unprovable id n) = n
first_count (E.Blocked n m) = n
first_count E.Eligible = 0
first_count (E.BrokerManaged m) = 0

abbrev pub second_count : Verdict → ℕ
second_count (E.Refused r) = 0
second_count (E.Unprovable id n) = 0
second_count (E.Blocked n m) = m
second_count E.Eligible = 0
second_count (E.BrokerManaged m) = m

abbrev pub ordering_words : Ordering → OrderingWords
ordering_words o =
    record {
      outcome = outcome_of o.eligibility;
      refusal = bar_of o.eligibility;
      first = first_count o.eligibility;
      second = second_count o.eligibility;
      read = o.read;
    }
