-- Document 01: "A fixed table gives, for each number 0 to 63, its family and how many values it carries, 51's list not counted."
-- Assumes nothing.
use Rattle.std.specs.Prelude.{ℕ, Bool, true, false, cond, ◌&&◌, List, [], ◌∷◌, leb, eqb}
use Rattle.answers.specs.declared.kinds.Kind.{Kind}

-- n is one of lo, .., hi
abbrev pub within : ℕ → ℕ → ℕ → Bool
within lo hi n = leb lo n && leb n hi

-- 1 added; 2 for 3 to 36; 3 session; 4 ordering; 5 assignment; 0 none
abbrev pub family_of : ℕ → ℕ
family_of n =
    cond (within 1 2 n) 1
    (cond (within 3 36 n) 2
    (cond (within 40 42 n) 3
    (cond (within 50 51 n) 4
    (cond (within 60 63 n) 5
    0))))

-- n is among the numbers of the list
abbrev pub among : ℕ → List ℕ → Bool
among n [] = false
among n (x ∷ xs) = cond (eqb n x) true (among n xs)

-- the table of 01, read by its last column; 1, 2, 29, 33 and the numbers that 01 does not use carry none
abbrev pub values_carried : ℕ → ℕ
values_carried n =
    cond (among n (6 ∷ 7 ∷ 8 ∷ 9 ∷ 16 ∷ 17 ∷ 19 ∷ 23 ∷ 30 ∷ 31 ∷ 32 ∷ 42 ∷ 50 ∷ 51 ∷ 61 ∷ 62 ∷ 63 ∷ [])) 1
    (cond (among n (3 ∷ 4 ∷ 5 ∷ 10 ∷ 11 ∷ 13 ∷ 15 ∷ 20 ∷ 21 ∷ 22 ∷ 24 ∷ 25 ∷ 27 ∷ 28 ∷ 35 ∷ 36 ∷ 40 ∷ 41 ∷ 60 ∷ [])) 2
    (cond (among n (12 ∷ 14 ∷ 34 ∷ [])) 3
    (cond (among n (18 ∷ 26 ∷ [])) 4
    0)))

-- what the call answers: the table has 64 entries, and there is nothing past it
abbrev pub kind_of : ℕ → Kind
kind_of n = cond (leb 64 n) (record { family = 0; values = 0 }) (record { family = family_of n; values = values_carried n })
