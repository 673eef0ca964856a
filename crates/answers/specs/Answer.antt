-- Document 01, "Answers by number": number and values of each answer, and how rules are written.
-- Assumes nothing.
use Rattle.std.specs.Prelude.{ℕ, Bool, cond, Result, Ok, Err, List, [], ◌∷◌, get_or}
use Rattle.answers.specs.declared.Refusal.{Refusal}
use Rattle.answers.specs.declared.Refusal.TheVariants.{BadTable, NoRoom, SerializedSize, SegmentCount, PlacementCount, DuplicatePlacement, EmptyPlacementUrl, DuplicateSegment, EmptyLegacyTopic, StartOutOfBounds, EndOutOfBounds, Reversed, UnknownState, CreatedAfterLayout, ActiveWithSealEpoch, ActiveWithChildren, SealedWithoutEpoch, InvalidSealEpoch, SelfEdge, DuplicateParent, DuplicateChild, EdgeCount, DanglingPlacement, DanglingParent, NonReciprocalEdge, EdgeEpochMismatch, DanglingChild, Depth, Cycle, ConflictingTopology, InvalidSplitCoverage, InvalidMergeCoverage, NoActiveSegments, ActiveCoverageDiscontinuity, ActiveCoverageEnd, PlacementMismatch, SessionMismatch, Broker, Empty, UnknownSegment, EpochMismatch, UnknownAssigned, RangeMismatch, LegacySegment}
use Rattle.answers.specs.declared.RefusalWords.{RefusalWords}
use Rattle.answers.specs.Verdict.{Verdict}
use Rattle.answers.specs.Verdict as E
use Rattle.answers.specs.Updates.{UpdateAnswer}
use Rattle.answers.specs.Updates as U

infixr 5 ◌then◌
-- what a judgement says: nothing or the refusal
abbrev pub Judged : Type 0
Judged = Result (Unit {0}) Refusal

pattern abbrev pub Accepted : Judged
Accepted = Ok tt

pattern abbrev pub Refused : Refusal → Judged
Refused r = Err r

-- ---- number and values, for each answer that is an enum: 0 and none where nothing is refused

-- 01's table: the number of each refusal, and its values
abbrev pub refusal_number : Refusal → ℕ
refusal_number BadTable = 1
refusal_number NoRoom = 2
refusal_number (SerializedSize actual max) = 3
refusal_number (SegmentCount actual max) = 4
refusal_number (PlacementCount actual max) = 5
refusal_number (DuplicatePlacement id) = 6
refusal_number (EmptyPlacementUrl id) = 7
refusal_number (DuplicateSegment id) = 8
refusal_number (EmptyLegacyTopic id) = 9
refusal_number (StartOutOfBounds id value) = 10
refusal_number (EndOutOfBounds id value) = 11
refusal_number (Reversed id start end) = 12
refusal_number (UnknownState id word) = 13
refusal_number (CreatedAfterLayout id created layout) = 14
refusal_number (ActiveWithSealEpoch id sealed) = 15
refusal_number (ActiveWithChildren id) = 16
refusal_number (SealedWithoutEpoch id) = 17
refusal_number (InvalidSealEpoch id created sealed layout) = 18
refusal_number (SelfEdge id) = 19
refusal_number (DuplicateParent id other) = 20
refusal_number (DuplicateChild id other) = 21
refusal_number (EdgeCount actual max) = 22
refusal_number (DanglingPlacement id) = 23
refusal_number (DanglingParent id parent) = 24
refusal_number (NonReciprocalEdge parent child) = 25
refusal_number (EdgeEpochMismatch parent child sealed created) = 26
refusal_number (DanglingChild id child) = 27
refusal_number (Depth actual max) = 28
refusal_number Cycle = 29
refusal_number (ConflictingTopology id) = 30
refusal_number (InvalidSplitCoverage id) = 31
refusal_number (InvalidMergeCoverage id) = 32
refusal_number NoActiveSegments = 33
refusal_number (ActiveCoverageDiscontinuity expected actual id) = 34
refusal_number (ActiveCoverageEnd actual expected) = 35
refusal_number (PlacementMismatch id placement) = 36
refusal_number (SessionMismatch got expected) = 40
refusal_number (Broker code message) = 41
refusal_number (Empty session) = 42
refusal_number (UnknownSegment id) = 50
refusal_number (EpochMismatch assignment dag) = 60
refusal_number (UnknownAssigned id) = 61
refusal_number (RangeMismatch id) = 62
refusal_number (LegacySegment id) = 63

abbrev pub refusal_values : Refusal → List ℕ
refusal_values BadTable = []
refusal_values NoRoom = []
refusal_values (SerializedSize actual max) = actual ∷ max ∷ []
refusal_values (SegmentCount actual max) = actual ∷ max ∷ []
refusal_values (PlacementCount actual max) = actual ∷ max ∷ []
refusal_values (DuplicatePlacement id) = id ∷ []
refusal_values (EmptyPlacementUrl id) = id ∷ []
refusal_values (DuplicateSegment id) = id ∷ []
refusal_values (EmptyLegacyTopic id) = id ∷ []
refusal_values (StartOutOfBounds id value) = id ∷ value ∷ []
refusal_values (EndOutOfBounds id value) = id ∷ value ∷ []
refusal_values (Reversed id start end) = id ∷ start ∷ end ∷ []
refusal_values (UnknownState id word) = id ∷ word ∷ []
refusal_values (CreatedAfterLayout id created layout) = id ∷ created ∷ layout ∷ []
refusal_values (ActiveWithSealEpoch id sealed) = id ∷ sealed ∷ []
refusal_values (ActiveWithChildren id) = id ∷ []
refusal_values (SealedWithoutEpoch id) = id ∷ []
refusal_values (InvalidSealEpoch id created sealed layout) = id ∷ created ∷ sealed ∷ layout ∷ []
refusal_values (SelfEdge id) = id ∷ []
refusal_values (DuplicateParent id other) = id ∷ other ∷ []
refusal_values (DuplicateChild id other) = id ∷ other ∷ []
refusal_values (EdgeCount actual max) = actual ∷ max ∷ []
refusal_values (DanglingPlacement id) = id ∷ []
refusal_values (DanglingParent id parent) = id ∷ parent ∷ []
refusal_values (NonReciprocalEdge parent child) = parent ∷ child ∷ []
refusal_values (EdgeEpochMismatch parent child sealed created) = parent ∷ child ∷ sealed ∷ created ∷ []
refusal_values (DanglingChild id child) = id ∷ child ∷ []
refusal_values (Depth actual max) = actual ∷ max ∷ []
refusal_values Cycle = []
refusal_values (ConflictingTopology id) = id ∷ []
refusal_values (InvalidSplitCoverage id) = id ∷ []
refusal_values (InvalidMergeCoverage id) = id ∷ []
refusal_values NoActiveSegments = []
refusal_values (ActiveCoverageDiscontinuity expected actual id) = expected ∷ actual ∷ id ∷ []
refusal_values (ActiveCoverageEnd actual expected) = actual ∷ expected ∷ []
refusal_values (PlacementMismatch id placement) = id ∷ placement ∷ []
refusal_values (SessionMismatch got expected) = got ∷ expected ∷ []
refusal_values (Broker code message) = code ∷ message ∷ []
refusal_values (Empty session) = session ∷ []
refusal_values (UnknownSegment id) = id ∷ []
refusal_values (EpochMismatch assignment dag) = assignment ∷ dag ∷ []
refusal_values (UnknownAssigned id) = id ∷ []
refusal_values (RangeMismatch id) = id ∷ []
refusal_values (LegacySegment id) = id ∷ []

-- as C takes a number and its values; the words past them are 0
abbrev pub words_by : ℕ → List ℕ → RefusalWords
words_by n values = record { number = n; a = get_or values 0 0; b = get_or values 1 0; c = get_or values 2 0; d = get_or values 3 0 }

abbrev pub words_of : Refusal → RefusalWords
words_of r = words_by (refusal_number r) (refusal_values r)

abbrev pub number_of : Judged → ℕ
number_of Accepted = 0
number_of (Refused r) = refusal_number r

-- of a judgement in words
abbrev pub number_in_words : Result (Unit {0}) RefusalWords → ℕ
number_in_words (Ok tt) = 0
number_in_words (Err w) = w.number

abbrev pub values_of : Judged → List ℕ
values_of Accepted = []
values_of (Refused r) = refusal_values r

abbrev pub eligibility_number : Verdict → ℕ
eligibility_number (E.Refused r) = refusal_number r
eligibility_number (E.Unprovable id n) = 51
eligibility_number (E.Blocked n m) = 0
eligibility_number E.Eligible = 0
eligibility_number (E.BrokerManaged m) = 0

abbrev pub eligibility_values : Verdict → List ℕ
eligibility_values (E.Refused r) = refusal_values r
eligibility_values (E.Unprovable id n) = id ∷ []
eligibility_values (E.Blocked n m) = []
eligibility_values E.Eligible = []
eligibility_values (E.BrokerManaged m) = []

abbrev pub updated_number : UpdateAnswer → ℕ
updated_number (U.Refused r) = refusal_number r
updated_number U.Stale = 0
updated_number (U.Accepted d) = 0

abbrev pub updated_values : UpdateAnswer → List ℕ
updated_values (U.Refused r) = refusal_values r
updated_values U.Stale = []
updated_values (U.Accepted d) = []

-- ---- how rules are written: a rule is a `Judged`, made of `when TEST (Refused (NAME VALUES))`, joined by `then` in 01's order

-- the refusal r where the test holds
abbrev pub when : Bool → Judged → Judged
when test r = cond test r Accepted

-- the first of two rules that refuses
abbrev pub ◌then◌ : Judged → Judged → Judged
Accepted then j = j
Refused r then j = Refused r
