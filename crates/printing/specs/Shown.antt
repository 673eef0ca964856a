-- Document 01, the listing program's output: each answer as the bytes of its line.
-- "Output: `A` epoch, order, added, removed, splits, merges, reason letter (S, M, R, U), handover; `R` number, values, 51's list; `T` stale;
-- `B` incomplete, remote; `E`; `M` remote; `X` and an unreadable line's number, from 1".
-- Assumes nothing.
use Rattle.std.specs.Prelude.{ℕ, cond, List, [], ◌∷◌, ◌++◌, eqb, take}
use Prim.Native.Char.{code}
use Rattle.answers.specs.declared.RefusalWords.{RefusalWords}
use Rattle.answers.specs.declared.DagChangeReason.{DagChangeReason}
use Rattle.answers.specs.declared.DagChangeReason.TheVariants.{Split, Merge, SegmentRemoved, Unknown}
use Rattle.answers.specs.declared.DagDelta.{DagDelta}
use Rattle.answers.specs.Verdict.{Verdict}
use Rattle.answers.specs.Verdict as E
use Rattle.answers.specs.Updates.{UpdateAnswer}
use Rattle.answers.specs.Updates as U
use Rattle.answers.specs.Answer.{words_by, words_of, eligibility_number, eligibility_values}
use Rattle.answers.specs.Kinds.{kind_of}
use Rattle.texts.specs.Decimal.{decimal, signed}
use Rattle.texts.specs.CommaList.{listed, pairs_listed}

-- a split pair is (parent, child)
abbrev pub splits_listed : ℕ → List ℕ → List ℕ
splits_listed n l = pairs_listed (code ">") n l

-- a merge pair is (child, parent): "A merge pair prints as child<parent"
abbrev pub merges_listed : ℕ → List ℕ → List ℕ
merges_listed n l = pairs_listed (code "<") n l

-- ---- lines: a letter, each field after a space, and the line's end

abbrev pub spaced : List (List ℕ) → List ℕ
spaced [] = []
spaced (t ∷ ts) = code " " ∷ (t ++ spaced ts)

abbrev pub line : ℕ → List (List ℕ) → List ℕ
line letter fields = letter ∷ (spaced fields ++ (10 ∷ []))

-- "Broker (signed code, ..)": 41's first value
unfoldable pub first_text : RefusalWords → List ℕ
first_text r = cond (eqb r.number 41) (signed r.a) (decimal r.a)

-- the values that the number carries, by the fixed table
unfoldable pub value_texts : RefusalWords → List (List ℕ)
value_texts r = take (kind_of r.number).values (first_text r ∷ decimal r.b ∷ decimal r.c ∷ decimal r.d ∷ [])

-- "`R` number, values": the number, its values, and what else the line has
abbrev pub refused : RefusalWords → List (List ℕ) → List ℕ
refused r more = line (code "R") (decimal r.number ∷ (value_texts r ++ more))

unfoldable pub shown_refusal : RefusalWords → List ℕ
shown_refusal r = refused r []

-- "reason letter (S, M, R, U)"
abbrev pub letter_of : DagChangeReason → ℕ
letter_of Split = code "S"
letter_of Merge = code "M"
letter_of SegmentRemoved = code "R"
letter_of Unknown = code "U"

-- an update's last fields, from the pairs on
abbrev pub change_fields : DagDelta → List ℕ → List ℕ → List (List ℕ)
change_fields d splits merges =
    splits_listed d.splits splits
    ∷ merges_listed d.merges merges
    ∷ (letter_of d.reason ∷ [])
    ∷ decimal d.handover
    ∷ []

unfoldable pub shown_accepted : DagDelta → ℕ → List ℕ → List ℕ → List ℕ → List ℕ → List ℕ → List ℕ
shown_accepted d rows order added removed splits merges =
    line (code "A")
    (decimal d.epoch
    ∷ listed rows order
    ∷ listed d.added added
    ∷ listed d.removed removed
    ∷ change_fields d splits merges)

-- An update's answer, with the number of rows that its session holds then and the lists that it was lent.
abbrev pub shown_updated : UpdateAnswer → ℕ → List ℕ → List ℕ → List ℕ → List ℕ → List ℕ → List ℕ
shown_updated (U.Refused r) rows order added removed splits merges = shown_refusal (words_of r)
shown_updated U.Stale rows order added removed splits merges = line (code "T") []
shown_updated (U.Accepted d) rows order added removed splits merges = shown_accepted d rows order added removed splits merges

-- 51: the segment and the list
unfoldable pub shown_unprovable : ℕ → ℕ → List ℕ → List ℕ
shown_unprovable id n list = refused (words_by (eligibility_number (E.Unprovable id n)) (eligibility_values (E.Unprovable id n))) (listed n list ∷ [])

unfoldable pub shown_blocked : ℕ → List ℕ → ℕ → List ℕ → List ℕ
shown_blocked n incomplete m remote = line (code "B") (listed n incomplete ∷ listed m remote ∷ [])

unfoldable pub shown_managed : ℕ → List ℕ → List ℕ
shown_managed m remote = line (code "M") (listed m remote ∷ [])

-- An ordering query's answer, with the two lists that it was lent. 51's list stands in the first.
abbrev pub shown_ordering : Verdict → List ℕ → List ℕ → List ℕ
shown_ordering (E.Refused r) first second = shown_refusal (words_of r)
shown_ordering (E.Unprovable id n) first second = shown_unprovable id n first
shown_ordering (E.Blocked n m) first second = shown_blocked n first m second
shown_ordering E.Eligible first second = line (code "E") []
shown_ordering (E.BrokerManaged m) first second = shown_managed m second

-- a line of the input that can't be read, by its number
unfoldable pub shown_unreadable : ℕ → List ℕ
shown_unreadable n = line (code "X") (decimal n ∷ [])
