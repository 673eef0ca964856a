-- The fixed table and the refusals agree, by cases: a refusal has as many values as the table gives its number, and as many of the words
-- that C takes are its values.
-- Assumes nothing.
use mathlib.Core.Path.{◌≡◌, refl}
use mathlib.Core.List.{List, [], ◌∷◌}
use Prim.Native.Nat.{ℕ}
use lib.ListN.{length, take}
use Rattle.answers.specs.declared.RefusalWords.{RefusalWords}
use Rattle.answers.specs.declared.Refusal.{Refusal}
use Rattle.answers.specs.declared.Refusal.TheVariants.{BadTable, NoRoom, SerializedSize, SegmentCount, PlacementCount, DuplicatePlacement, EmptyPlacementUrl, DuplicateSegment, EmptyLegacyTopic, StartOutOfBounds, EndOutOfBounds, Reversed, UnknownState, CreatedAfterLayout, ActiveWithSealEpoch, ActiveWithChildren, SealedWithoutEpoch, InvalidSealEpoch, SelfEdge, DuplicateParent, DuplicateChild, EdgeCount, DanglingPlacement, DanglingParent, NonReciprocalEdge, EdgeEpochMismatch, DanglingChild, Depth, Cycle, ConflictingTopology, InvalidSplitCoverage, InvalidMergeCoverage, NoActiveSegments, ActiveCoverageDiscontinuity, ActiveCoverageEnd, PlacementMismatch, SessionMismatch, Broker, Empty, UnknownSegment, EpochMismatch, UnknownAssigned, RangeMismatch, LegacySegment}
use Rattle.answers.specs.Answer.{words_of, refusal_number, refusal_values}
use Rattle.answers.specs.Kinds.{values_carried}

-- the values among a refusal's words, by the table
abbrev pub told_values : RefusalWords → List ℕ
told_values w = take (values_carried w.number) (w.a ∷ w.b ∷ w.c ∷ w.d ∷ [])

pub carried : (r : Refusal) → (values_carried (refusal_number r) ≡ length (refusal_values r)) × (told_values (words_of r) ≡ refusal_values r)
carried BadTable = (refl, refl)
carried NoRoom = (refl, refl)
carried (SerializedSize actual max) = (refl, refl)
carried (SegmentCount actual max) = (refl, refl)
carried (PlacementCount actual max) = (refl, refl)
carried (DuplicatePlacement id) = (refl, refl)
carried (EmptyPlacementUrl id) = (refl, refl)
carried (DuplicateSegment id) = (refl, refl)
carried (EmptyLegacyTopic id) = (refl, refl)
carried (StartOutOfBounds id value) = (refl, refl)
carried (EndOutOfBounds id value) = (refl, refl)
carried (Reversed id start end) = (refl, refl)
carried (UnknownState id word) = (refl, refl)
carried (CreatedAfterLayout id created layout) = (refl, refl)
carried (ActiveWithSealEpoch id sealed) = (refl, refl)
carried (ActiveWithChildren id) = (refl, refl)
carried (SealedWithoutEpoch id) = (refl, refl)
carried (InvalidSealEpoch id created sealed layout) = (refl, refl)
carried (SelfEdge id) = (refl, refl)
carried (DuplicateParent id other) = (refl, refl)
carried (DuplicateChild id other) = (refl, refl)
carried (EdgeCount actual max) = (refl, refl)
carried (DanglingPlacement id) = (refl, refl)
carried (DanglingParent id parent) = (refl, refl)
carried (NonReciprocalEdge parent child) = (refl, refl)
carried (EdgeEpochMismatch parent child sealed created) = (refl, refl)
carried (DanglingChild id child) = (refl, refl)
carried (Depth actual max) = (refl, refl)
carried Cycle = (refl, refl)
carried (ConflictingTopology id) = (refl, refl)
carried (InvalidSplitCoverage id) = (refl, refl)
carried (InvalidMergeCoverage id) = (refl, refl)
carried NoActiveSegments = (refl, refl)
carried (ActiveCoverageDiscontinuity expected actual id) = (refl, refl)
carried (ActiveCoverageEnd actual expected) = (refl, refl)
carried (PlacementMismatch id placement) = (refl, refl)
carried (SessionMismatch got expected) = (refl, refl)
carried (Broker code message) = (refl, refl)
carried (Empty session) = (refl, refl)
carried (UnknownSegment id) = (refl, refl)
carried (EpochMismatch assignment dag) = (refl, refl)
carried (UnknownAssigned id) = (refl, refl)
carried (RangeMismatch id) = (refl, refl)
carried (LegacySegment id) = (refl, refl)
