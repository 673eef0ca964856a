-- Document 01's worked example, and a line of each other kind, by running the definitions.
-- Assumes nothing.
use Prim.Native.Nat.{ℕ}
use mathlib.Core.Path.{◌≡◌, refl}
use mathlib.Core.List.{[], ◌∷◌}
use Rattle.answers.specs.declared.RefusalWords.{RefusalWords}
use Rattle.answers.specs.declared.DagChangeReason.TheVariants.{Split, Merge, Unknown}
use Rattle.answers.specs.Verdict as E
use Rattle.answers.specs.Updates as U
use Rattle.texts.specs.Decimal.{decimal, signed}
use Rattle.texts.specs.CommaList.{commas, listed, pairs_listed}
use Rattle.printing.specs.Shown.{first_text, value_texts, shown_refusal, shown_accepted, shown_updated, shown_unprovable, shown_blocked, shown_managed, shown_ordering, shown_unreadable}
use Rattle.texts.specs.Text.{bytes_of}

abbrev refusal : ℕ → ℕ → ℕ → ℕ → ℕ → RefusalWords
refusal n a b c d = record { number = n; a = a; b = b; c = c; d = d }

-- ---- the five lines of the worked example; the lists stand at the front of areas that hold 9s

first-update :
    shown_updated
    (U.Accepted (record { epoch = 0; added = 1; removed = 0; splits = 0; merges = 0; reason = Unknown; handover = 65536 }))
    1
    (1 ∷ 9 ∷ 9 ∷ [])
    (1 ∷ 9 ∷ 9 ∷ [])
    (9 ∷ [])
    (9 ∷ 9 ∷ [])
    (9 ∷ 9 ∷ [])
    ≡ bytes_of "A 0 1 1 - - - U 65536\n"
unfolding decimal commas listed pairs_listed shown_accepted
first-update = refl

second-update :
    shown_updated
    (U.Accepted (record { epoch = 3; added = 2; removed = 0; splits = 2; merges = 0; reason = Split; handover = 65536 }))
    3
    (1 ∷ 2 ∷ 3 ∷ 9 ∷ [])
    (2 ∷ 3 ∷ 9 ∷ [])
    (9 ∷ [])
    (1 ∷ 2 ∷ 1 ∷ 3 ∷ 9 ∷ 9 ∷ [])
    (9 ∷ 9 ∷ [])
    ≡ bytes_of "A 3 1,2,3 2,3 - 1>2,1>3 - S 65536\n"
unfolding decimal commas listed pairs_listed shown_accepted
second-update = refl

blocked : shown_ordering (E.Blocked 1 0) (1 ∷ 9 ∷ []) (9 ∷ []) ≡ bytes_of "B 1 -\n"
unfolding decimal commas listed shown_blocked
blocked = refl

eligible : shown_ordering E.Eligible (9 ∷ []) (9 ∷ []) ≡ bytes_of "E\n"
eligible = refl

broker-managed : shown_ordering (E.BrokerManaged 1) (9 ∷ []) (1 ∷ 9 ∷ []) ≡ bytes_of "M 1\n"
unfolding decimal commas listed shown_managed
broker-managed = refl

-- ---- merge pairs, the other reasons and answers

merged :
    shown_updated
    (U.Accepted (record { epoch = 5; added = 1; removed = 1; splits = 0; merges = 2; reason = Merge; handover = 10 }))
    1
    (6 ∷ [])
    (6 ∷ [])
    (9 ∷ [])
    []
    (6 ∷ 2 ∷ 6 ∷ 4 ∷ [])
    ≡ bytes_of "A 5 6 6 9 - 6<2,6<4 M 10\n"
unfolding decimal commas listed pairs_listed shown_accepted
merged = refl

stale : shown_updated U.Stale 0 [] [] [] [] [] ≡ bytes_of "T\n"
stale = refl

unprovable : shown_ordering (E.Unprovable 3 2) (1 ∷ 2 ∷ 9 ∷ []) [] ≡ bytes_of "R 51 3 1,2\n"
unfolding decimal commas listed first_text value_texts shown_unprovable
unprovable = refl

broker : shown_refusal (refusal 41 4294967291 0 0 0) ≡ bytes_of "R 41 -5 0\n"
unfolding decimal signed first_text value_texts shown_refusal
broker = refl

lowest-code : shown_refusal (refusal 41 2147483648 7 0 0) ≡ bytes_of "R 41 -2147483648 7\n"
unfolding decimal signed first_text value_texts shown_refusal
lowest-code = refl

highest-code : shown_refusal (refusal 41 2147483647 7 0 0) ≡ bytes_of "R 41 2147483647 7\n"
unfolding decimal signed first_text value_texts shown_refusal
highest-code = refl

bad-table : shown_refusal (refusal 1 0 0 0 0) ≡ bytes_of "R 1\n"
unfolding decimal first_text value_texts shown_refusal
bad-table = refl

discontinuity : shown_refusal (refusal 34 65535 0 2 0) ≡ bytes_of "R 34 65535 0 2\n"
unfolding decimal first_text value_texts shown_refusal
discontinuity = refl

seal-epoch : shown_refusal (refusal 18 1 2 3 18446744073709551615) ≡ bytes_of "R 18 1 2 3 18446744073709551615\n"
unfolding decimal first_text value_texts shown_refusal
seal-epoch = refl

unreadable : shown_unreadable 12 ≡ bytes_of "X 12\n"
unfolding decimal shown_unreadable
unreadable = refl
