-- Worked cases of the assignment, one list of cases under one statement, proved by running the definitions. Assumes nothing.
use Prim.Native.Nat.{ℕ}
use mathlib.Core.Path.{◌≡◌, refl}
use mathlib.Core.List.{List, [], ◌∷◌, ◌++◌}
use Rattle.answers.specs.Answer.{Judged, number_of, values_of}
use Rattle.types.specs.declared.records.Assigned.{Assigned}
use Rattle.rules.specs.Shape.{bad_head, bad_held_row, bad_held_rows}
use Rattle.rules.specs.Assignment.{assigned_found, assigned_rule, each_assigned, assignment_rule}

infix 6 ◌gives◌
-- an answer by its number and values
abbrev Answer : Type 0
Answer = ℕ × List ℕ

record Case : Type 0 where
  got : Judged
  wanted : Answer

abbrev ◌gives◌ : Judged → Answer → Case
got gives wanted = record { got = got; wanted = wanted }

abbrev Right : List Case → Type 0
Right [] = Unit {0}
Right (c ∷ cs) = ((number_of c.got, values_of c.got) ≡ c.wanted) × Right cs

-- an Active held row with no edges and no site, by its id, range and legacy words
abbrev row : ℕ → ℕ → ℕ → ℕ → ℕ → List ℕ
row id start end flag text = id ∷ start ∷ end ∷ 1 ∷ 0 ∷ 0 ∷ 0 ∷ flag ∷ text ∷ 0 ∷ 0 ∷ 0 ∷ 0 ∷ 0 ∷ 0 ∷ []

abbrev assigned : ℕ → ℕ → ℕ → Assigned
assigned id start end = record { id = id; start = start; end = end }

-- 2 and 4 are plain, the legacy text of 6 is empty, 8 is a legacy segment
abbrev held : List ℕ
held = row 2 0 9 0 0 ++ (row 4 10 19 0 7 ++ (row 6 20 29 1 0 ++ row 8 30 39 1 7))

-- an assignment of epoch 5 against four held rows of epoch 5
abbrev five : List Assigned → Judged
five list = assignment_rule held 4 5 5 list

abbrev cases : List Case
cases =
    -- no layout is held: epoch 0 and no records; epoch 0 and a record; epoch 5
    (assignment_rule [] 0 0 0 [] gives (0, []))
    ∷ (assignment_rule [] 0 0 0 (assigned 2 0 9 ∷ []) gives (61, 2 ∷ []))
    ∷ (assignment_rule [] 0 0 5 (assigned 2 0 9 ∷ []) gives (60, 5 ∷ 0 ∷ []))
    -- the epoch of an older and of a newer assignment
    ∷ (assignment_rule held 4 5 4 [] gives (60, 4 ∷ 5 ∷ []))
    ∷ (assignment_rule held 4 5 6 [] gives (60, 6 ∷ 5 ∷ []))
    -- more rows than the area has, and 1 comes before 60
    ∷ (assignment_rule held 5 5 4 [] gives (1, []))
    -- all but the legacy segment; an unread legacy text and an empty one are none
    ∷ (five (assigned 6 20 29 ∷ assigned 2 0 9 ∷ assigned 4 10 19 ∷ []) gives (0, []))
    -- unknown; another start, another end; legacy
    ∷ (five (assigned 3 0 9 ∷ []) gives (61, 3 ∷ []))
    ∷ (five (assigned 4 11 19 ∷ []) gives (62, 4 ∷ []))
    ∷ (five (assigned 4 10 20 ∷ []) gives (62, 4 ∷ []))
    ∷ (five (assigned 8 30 39 ∷ []) gives (63, 8 ∷ []))
    -- a legacy segment with another range
    ∷ (five (assigned 8 30 40 ∷ []) gives (62, 8 ∷ []))
    -- records are judged in list order, the last one too
    ∷ (five (assigned 8 30 39 ∷ assigned 3 0 9 ∷ []) gives (63, 8 ∷ []))
    ∷ (five (assigned 3 0 9 ∷ assigned 8 30 39 ∷ []) gives (61, 3 ∷ []))
    ∷ (five (assigned 2 0 9 ∷ assigned 6 20 29 ∷ assigned 8 30 39 ∷ []) gives (63, 8 ∷ []))
    ∷ []

pub right : Right cases
unfolding bad_head bad_held_row bad_held_rows assigned_found assigned_rule each_assigned assignment_rule
right = (refl, (refl, (refl, (refl, (refl, (refl, (refl, (refl, (refl, (refl, (refl, (refl, (refl, (refl, (refl, tt)))))))))))))))
