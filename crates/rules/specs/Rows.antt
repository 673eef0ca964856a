-- Document 01, "Order of checks": 3 to 23.
-- Assumes nothing.
use Rattle.std.specs.Prelude.{ℕ, ◌+◌, max, Bool, false, not, ◌||◌, List, [], ◌∷◌, ◌++◌, map, length, Ok, Err, eqb, ltb, leb}
use Rattle.std.proofs.Math.Option.{Option, none, some}
use Rattle.lists.specs.Lists.{has}
use Rattle.lists.specs.Sort.{sorted}
use Rattle.answers.specs.Answer.{when, ◌then◌, Judged, Accepted, Refused}
use Rattle.types.specs.declared.limits.DagLimits.{DagLimits}
use Rattle.types.specs.declared.range.RangeError.TheVariants as R
use Rattle.types.specs.Range.{Made, range_of}
use Rattle.types.specs.declared.records.Side.{Side}
use Rattle.types.specs.declared.records.Side.TheVariants.{Parents, Children}
use Rattle.types.specs.declared.state.SegmentState.{SegmentState}
use Rattle.types.specs.declared.state.SegmentState.TheVariants.{Active, Sealed}
use Rattle.types.specs.State.{StateRead, state_of}
use Rattle.rules.specs.Model.{Head, Segment, Placement, ids_of}
use Rattle.answers.specs.declared.Refusal.{Refusal}
use Rattle.answers.specs.declared.Refusal.TheVariants.{StartOutOfBounds, EndOutOfBounds, Reversed, UnknownState, DuplicateParent, DuplicateChild, SerializedSize, SegmentCount, PlacementCount, DuplicatePlacement, EmptyPlacementUrl, EmptyLegacyTopic, ActiveWithSealEpoch, ActiveWithChildren, SealedWithoutEpoch, InvalidSealEpoch, CreatedAfterLayout, SelfEdge, EdgeCount, DuplicateSegment, DanglingPlacement}

-- ---- 3, 4, 5 (actual, max): the size, n segment rows, p placement rows

unfoldable pub size_rule : DagLimits → ℕ → ℕ → ℕ → Judged
size_rule limits size n p =
    when (ltb limits.size size) (Refused (SerializedSize size limits.size)) then
    when (ltb limits.segments n) (Refused (SegmentCount n limits.segments)) then
    when (ltb limits.segments p) (Refused (PlacementCount p limits.segments)) then
    Accepted

-- ---- "Placements in input order: 6, 7"

-- the placements after those with the ids `seen`
unfoldable pub places_from : List ℕ → List Placement → Judged
places_from seen [] = Accepted
places_from seen (p ∷ ps) =
    when (has p.id seen) (Refused (DuplicatePlacement p.id)) then
    when (eqb p.site.url 0) (Refused (EmptyPlacementUrl p.id)) then
    places_from (seen ++ (p.id ∷ [])) ps

unfoldable pub placements_rule : List Placement → Judged
placements_rule ps = places_from [] ps

-- ---- the descriptor: 9 to 13

-- the field is present and the text is the empty one
abbrev pub empty_text : Option ℕ → Bool
empty_text none = false
empty_text (some text) = eqb text 0

-- 10 to 12, by the answer of `KeyRange::new`: the id before its values
unfoldable pub range_rule : ℕ → Made → Judged
range_rule id (Ok range) = Accepted
range_rule id (Err (R.StartOutOfBounds start)) = Refused (StartOutOfBounds id start)
range_rule id (Err (R.EndOutOfBounds end)) = Refused (EndOutOfBounds id end)
range_rule id (Err (R.Reversed start end)) = Refused (Reversed id start end)

-- 13, by the answer of `SegmentState::from_word`, likewise
unfoldable pub state_rule : ℕ → StateRead → Judged
state_rule id (Ok state) = Accepted
state_rule id (Err unknown) = Refused (UnknownState id unknown.0)

unfoldable pub descriptor_rule : ℕ → ℕ → ℕ → ℕ → Option ℕ → Judged
descriptor_rule id start end state legacy =
    when (empty_text legacy) (Refused (EmptyLegacyTopic id)) then
    range_rule id (range_of start end) then
    state_rule id (state_of state)

-- ---- the lifecycle: 14 to 18

-- "15 and 16 are for Active": no seal epoch, no children
unfoldable pub active_rule : ℕ → Option ℕ → ℕ → Judged
active_rule id (some sealed) children = Refused (ActiveWithSealEpoch id sealed)
active_rule id none children = when (not (eqb children 0)) (Refused (ActiveWithChildren id))

-- "17 and 18 for Sealed (18 when sealed < created or sealed > layout)"
unfoldable pub sealed_rule : ℕ → ℕ → ℕ → Option ℕ → Judged
sealed_rule layout id created none = Refused (SealedWithoutEpoch id)
sealed_rule layout id created (some sealed) =
    when (ltb sealed created || ltb layout sealed) (Refused (InvalidSealEpoch id created sealed layout))

unfoldable pub state_lifecycle : ℕ → ℕ → SegmentState → ℕ → Option ℕ → ℕ → Judged
state_lifecycle layout id Active created sealed children = active_rule id sealed children
state_lifecycle layout id Sealed created sealed children = sealed_rule layout id created sealed

unfoldable pub lifecycle_rule : ℕ → ℕ → SegmentState → ℕ → Option ℕ → ℕ → Judged
lifecycle_rule layout id state created sealed children =
    when (ltb layout created) (Refused (CreatedAfterLayout id created layout)) then
    state_lifecycle layout id state created sealed children

-- the state that a word which got past 13 names
abbrev pub state_after : StateRead → SegmentState
state_after (Ok state) = state
state_after (Err unknown) = Sealed

-- ---- one edge list: 19, and 20 for parents or 21 for children

-- 20, 21
abbrev pub duplicate : Side → ℕ → ℕ → Refusal
duplicate Parents id other = DuplicateParent id other
duplicate Children id other = DuplicateChild id other

-- "item by item, and the first bad item ends it, self edge before duplicate": the items after those of `before`
unfoldable pub items_from : Side → ℕ → List ℕ → List ℕ → Judged
items_from side id before [] = Accepted
items_from side id before (x ∷ xs) =
    when (eqb x id) (Refused (SelfEdge id)) then
    when (has x before) (Refused (duplicate side id x)) then
    items_from side id (before ++ (x ∷ [])) xs

unfoldable pub list_rule : Side → ℕ → List ℕ → Judged
list_rule side id list = items_from side id [] list

-- ---- "Segment rows in input order, each through 8 to 22 in that order"

-- 9 to 18, of a row with that many children
unfoldable pub head_rule : ℕ → Head → ℕ → Judged
head_rule layout h children =
    descriptor_rule h.id h.start h.end h.state h.legacy then
    lifecycle_rule layout h.id (state_after (state_of h.state)) h.created h.sealed children

-- 19 to 21: "Parents are judged first, then children"
unfoldable pub lists_rule : ℕ → List ℕ → List ℕ → Judged
lists_rule id parents children =
    list_rule Parents id parents then
    list_rule Children id children

unfoldable pub row_rule : ℕ → Segment → Judged
row_rule layout s =
    head_rule layout s.head (length s.children) then
    lists_rule s.head.id s.parents s.children

-- 22 (actual, max): "compares the larger of both running totals"
unfoldable pub edge_count_rule : ℕ → ℕ → Judged
edge_count_rule limit total = when (ltb limit total) (Refused (EdgeCount total limit))

-- one row through 8 to 22: `seen` are the ids before it, `parents` and `children` the running totals with its own edges
unfoldable pub counted_rule : ℕ → ℕ → List ℕ → ℕ → ℕ → Segment → Judged
counted_rule layout limit seen parents children s =
    when (has s.head.id seen) (Refused (DuplicateSegment s.head.id)) then
    row_rule layout s then
    edge_count_rule limit (max parents children)

-- the rows after those with the ids `seen` and with that many parents and children
unfoldable pub rows_from : ℕ → ℕ → List ℕ → ℕ → ℕ → List Segment → Judged
rows_from layout limit seen parents children [] = Accepted
rows_from layout limit seen parents children (s ∷ ss) =
    counted_rule layout limit seen (parents + length s.parents) (children + length s.children) s then
    rows_from layout limit (seen ++ (s.head.id ∷ [])) (parents + length s.parents) (children + length s.children) ss

unfoldable pub rows_rule : ℕ → ℕ → List Segment → Judged
rows_rule layout limit ss = rows_from layout limit [] 0 0 ss

-- ---- "Then 23 over placement ids ascending"

-- the first of the ids that no segment has
unfoldable pub dangling_from : List ℕ → List ℕ → Judged
dangling_from known [] = Accepted
dangling_from known (x ∷ xs) =
    when (not (has x known)) (Refused (DanglingPlacement x)) then
    dangling_from known xs

abbrev pub placed_ids : List Placement → List ℕ
placed_ids ps = sorted leb (map (λ (p : Placement). p.id) ps)

unfoldable pub dangling_rule : List Segment → List Placement → Judged
dangling_rule ss ps = dangling_from (ids_of ss) (placed_ids ps)
