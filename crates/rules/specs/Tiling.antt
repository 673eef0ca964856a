-- Document 01: "To tile is to hold every hash of the target exactly once and no other." `Tiles` is that meaning, `tiles` the test that
-- computes; `tiles-sound` and `tiles-complete` of proofs/Tiled show them to be the same for all ranges and all targets. Split (31), merge (32)
-- and full coverage (33 to 35) use this one test.
-- A range is a row (start, end, id). Assumes nothing.
use Rattle.std.specs.Prelude.{ℕ, ◌+◌, ◌-◌, ◌≤◌, ◌≡◌, Bool, true, false, cond, not, ◌&&◌, ◌||◌, List, [], ◌∷◌, ◌++◌, leb, ltb, eqb, length}
use Rattle.std.proofs.Math.Option.{Option, none, some}
use Rattle.lists.specs.Lists as Lists
use Rattle.lists.specs.Lists.{tick}
use Rattle.lists.specs.Sort.{Row, le3, sorted}
use Rattle.answers.specs.Answer.{when, ◌then◌, Judged, Accepted, Refused}
use Rattle.rules.specs.declared.Walked.{Walked}
use Rattle.rules.specs.declared.Walked.TheVariants.{Tiled, Broken, Short}
use Rattle.rules.specs.Model.{Segment, lookup, by_id}
use Rattle.answers.specs.declared.Refusal.{Refusal}
use Rattle.types.specs.declared.records.Side.{Side}
use Rattle.types.specs.declared.records.Side.TheVariants.{Parents, Children}
use Rattle.answers.specs.declared.Refusal.TheVariants.{InvalidSplitCoverage, InvalidMergeCoverage, ConflictingTopology, ActiveCoverageDiscontinuity, ActiveCoverageEnd, NoActiveSegments}

-- ---- the meaning

-- h is one of first, .., last
abbrev pub inside : ℕ → ℕ → ℕ → Bool
inside first last h = leb first h && leb h last

-- how many of the ranges hold the hash
unfoldable pub holders : ℕ → List Row → ℕ
holders h [] = 0
holders h (r ∷ rs) = tick (inside r.0 r.1 h) + holders h rs

-- how many hashes the ranges hold, each range for itself
unfoldable pub widths : List Row → ℕ
widths [] = 0
widths (r ∷ rs) = (r.1 - r.0 + 1) + widths rs

-- no range ends before it starts
abbrev pub Ranges : List Row → Type 0
Ranges [] = Unit {0}
Ranges (r ∷ rs) = (r.0 ≤ r.1) × Ranges rs

-- the ranges hold every hash from first to last exactly once, and no other
pub record Tiles (first last : ℕ) (rs : List Row) : Type 0 where
  pub target : first ≤ last
  pub ranges : Ranges rs
  pub once : (h : ℕ) → holders h rs ≡ tick (inside first last h)

-- ---- the test: sort by (start, end, id) and step from range to range

-- the range is not the next one: it starts elsewhere, ends before it starts, or goes past the target
unfoldable pub misfit : ℕ → ℕ → ℕ → ℕ → Bool
misfit expected last start end = not (eqb start expected) || (ltb end start || ltb last end)

-- the ranges that come after one that ended where the target ends: there must be none
unfoldable pub walk_end : ℕ → List Row → Walked
walk_end last [] = Tiled
walk_end last (r ∷ rs) = Broken last r.0 r.2

-- the next range must start at `expected`
unfoldable pub walk_from : ℕ → ℕ → List Row → Walked
walk_from last expected [] = Short expected
walk_from last expected (r ∷ rs) =
    cond (misfit expected last r.0 r.1) (Broken expected r.0 r.2)
    (cond (eqb r.1 last) (walk_end last rs)
    (walk_from last (r.1 + 1) rs))

unfoldable pub walked : ℕ → ℕ → List Row → Walked
walked first last rs = walk_from last first (sorted le3 rs)

abbrev pub is_tiled : Walked → Bool
is_tiled Tiled = true
is_tiled (Broken expected start id) = false
is_tiled (Short expected) = false

unfoldable pub tiles : ℕ → ℕ → List Row → Bool
tiles first last rs = is_tiled (walked first last rs)

-- ---- the ranges of segments

abbrev pub range_of : Segment → Row
range_of s = (s.head.start, s.head.end, s.head.id)

abbrev pub range_found : Option Segment → List Row
range_found none = []
range_found (some s) = range_of s ∷ []

-- of those of the ids that have a row
unfoldable pub ranges_of : List Segment → List ℕ → List Row
ranges_of ss [] = []
ranges_of ss (x ∷ xs) = range_found (lookup x ss) ++ ranges_of ss xs

-- 31 of children, 32 of parents
abbrev pub uncovered : Side → ℕ → Refusal
uncovered Children id = InvalidSplitCoverage id
uncovered Parents id = InvalidMergeCoverage id

-- 31 and 32 (id): the ranges of the segments with these ids must tile the range of s
unfoldable pub tiling_rule : Side → List Segment → Segment → List ℕ → Judged
tiling_rule side ss s list =
    when (not (tiles s.head.start s.head.end (ranges_of ss list))) (Refused (uncovered side s.head.id)) then
    Accepted

-- ---- "Parents with children, ascending: if all children have one parent, their ranges must tile the parent's (31); else there must be one
-- child only, with several parents (30)."

abbrev pub parent_count : Option Segment → ℕ
parent_count none = 0
parent_count (some s) = length s.parents

unfoldable pub all_single : List Segment → List ℕ → Bool
all_single ss [] = true
all_single ss (x ∷ xs) = cond (eqb (parent_count (lookup x ss)) 1) (all_single ss xs) false

unfoldable pub one_merged : List Segment → List ℕ → Bool
one_merged ss [] = false
one_merged ss (x ∷ []) = ltb 1 (parent_count (lookup x ss))
one_merged ss (x ∷ y ∷ xs) = false

unfoldable pub split_rule : List Segment → Segment → Judged
split_rule ss p =
    cond (all_single ss p.children) (tiling_rule Children ss p p.children)
    (cond (one_merged ss p.children) Accepted
    (Refused (ConflictingTopology p.head.id)))

-- a segment with no children is no parent
unfoldable pub fork_rule : List Segment → Segment → Judged
fork_rule ss p = cond (Lists.none p.children) Accepted (split_rule ss p)

unfoldable pub forks_from : List Segment → List Segment → Judged
forks_from ss [] = Accepted
forks_from ss (p ∷ ps) = fork_rule ss p then forks_from ss ps

-- ---- "Then children of several parents, ascending: parents' ranges tile the child's (32)."

unfoldable pub join_rule : List Segment → Segment → Judged
join_rule ss c = cond (ltb 1 (length c.parents)) (tiling_rule Parents ss c c.parents) Accepted

unfoldable pub joins_from : List Segment → List Segment → Judged
joins_from ss [] = Accepted
joins_from ss (c ∷ cs) = join_rule ss c then joins_from ss cs

unfoldable pub transitions_rule : List Segment → Judged
transitions_rule ss =
    forks_from ss (by_id ss) then
    joins_from ss (by_id ss)

-- ---- "Last, Active rows by (start, end, id): 33, 34, 35; a row after 65535 was reached reports expected 65535."

-- the ranges of the Active segments
unfoldable pub active_of : List Segment → List Row
active_of [] = []
active_of (s ∷ ss) = cond (eqb s.head.state 1) (range_of s ∷ active_of ss) (active_of ss)

-- how a walk from 0 to 65535 is answered: 34 (expected, actual, id), 35 (actual, 65535)
unfoldable pub walked_rule : Walked → Judged
walked_rule Tiled = Accepted
walked_rule (Broken expected start id) = Refused (ActiveCoverageDiscontinuity expected start id)
walked_rule (Short expected) = Refused (ActiveCoverageEnd (expected - 1) 65535)

unfoldable pub coverage_rule : List Row → Judged
coverage_rule active =
    when (Lists.none active) (Refused NoActiveSegments) then
    walked_rule (walked 0 65535 active)
