-- Document 01: "Assignment: 1, 60, then each assigned segment in order through 61, 62, 63; 63 needs the legacy flag and a text other than 0."
-- Assumes nothing.
use Rattle.std.specs.Prelude.{ℕ, Bool, false, not, ◌||◌, List, [], ◌∷◌, eqb}
use Rattle.std.proofs.Math.Option.{Option, none, some}
use Rattle.answers.specs.Answer.{when, ◌then◌, Judged, Accepted, Refused}
use Rattle.types.specs.declared.records.Assigned.{Assigned}
use Rattle.rules.specs.Model.{Head, head_of}
use Rattle.rules.specs.Tables.{heads, held_width}
use Rattle.rules.specs.Shape.{bad_held_rows}
use Rattle.answers.specs.declared.Refusal.TheVariants.{UnknownAssigned, RangeMismatch, LegacySegment, BadTable, EpochMismatch}

-- the legacy flag and a text other than 0
abbrev pub is_legacy : Option ℕ → Bool
is_legacy none = false
is_legacy (some text) = not (eqb text 0)

abbrev pub other_range : Head → Assigned → Bool
other_range h a = not (eqb h.start a.start) || not (eqb h.end a.end)

-- 61, 62, 63 (id), by the head of the row with that id
unfoldable pub assigned_found : Assigned → Option Head → Judged
assigned_found a none = Refused (UnknownAssigned a.id)
assigned_found a (some h) =
    when (other_range h a) (Refused (RangeMismatch a.id)) then
    when (is_legacy h.legacy) (Refused (LegacySegment a.id)) then
    Accepted

unfoldable pub assigned_rule : List Head → Assigned → Judged
assigned_rule hs a = assigned_found a (head_of a.id hs)

-- in list order
unfoldable pub each_assigned : List Head → List Assigned → Judged
each_assigned hs [] = Accepted
each_assigned hs (a ∷ rest) = assigned_rule hs a then each_assigned hs rest

-- 1, 60 (assignment, dag); a session that holds no layout reads its counts and epoch as 0
unfoldable pub assignment_rule : List ℕ → ℕ → ℕ → ℕ → List Assigned → Judged
assignment_rule rows n dag epoch list =
    when (bad_held_rows rows n) (Refused BadTable) then
    when (not (eqb epoch dag)) (Refused (EpochMismatch epoch dag)) then
    each_assigned (heads held_width rows n 0) list
