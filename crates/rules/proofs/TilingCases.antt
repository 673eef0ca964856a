-- Worked cases of document 01 for coverage, one table under one statement, and of the tiling test likewise: the rules compute, so each is `refl`.
-- Assumes nothing.
use Prim.Native.Nat.{ℕ}
use mathlib.Core.Path.{◌≡◌, refl}
use mathlib.Core.Bool.{Bool, true, false}
use mathlib.Core.List.{List, [], ◌∷◌}
use Rattle.lists.specs.Sort.{Row, le3}
use Rattle.answers.specs.Answer.{Judged, number_of, values_of}
use Rattle.rules.specs.Tiling.{misfit, walk_end, walk_from, walked, tiles, walked_rule, coverage_rule}

-- an answer by its number and values
abbrev Answer : Type 0
Answer = ℕ × List ℕ

abbrev told : Judged → Answer
told j = (number_of j, values_of j)

record Case : Type 0 where
  active : List Row
  answer : Answer

abbrev Right : List Case → Type 0
Right [] = Unit {0}
Right (c ∷ cs) = (told (coverage_rule c.active) ≡ c.answer) × Right cs

abbrev cases : List Case
cases =
    -- one Active 0..65535
    record { active = (0, 65535, 1) ∷ []; answer = (0, []) }
    -- no rows
    ∷ record { active = []; answer = (33, []) }
    -- 0..65534 alone
    ∷ record { active = (0, 65534, 1) ∷ []; answer = (35, 65534 ∷ 65535 ∷ []) }
    -- ids 1 and 2 both 0..65535
    ∷ record { active = (0, 65535, 2) ∷ (0, 65535, 1) ∷ []; answer = (34, 65535 ∷ 0 ∷ 2 ∷ []) }
    -- two that tile, in any order
    ∷ record { active = (32768, 65535, 3) ∷ (0, 32767, 2) ∷ []; answer = (0, []) }
    -- a gap, and an overlap
    ∷ record { active = (32769, 65535, 3) ∷ (0, 32767, 2) ∷ []; answer = (34, 32768 ∷ 32769 ∷ 3 ∷ []) }
    ∷ record { active = (32767, 65535, 3) ∷ (0, 32767, 2) ∷ []; answer = (34, 32768 ∷ 32767 ∷ 3 ∷ []) }
    -- not from 0
    ∷ record { active = (1, 65535, 3) ∷ []; answer = (34, 0 ∷ 1 ∷ 3 ∷ []) }
    ∷ []

pub coverage-cases : Right cases
unfolding le3 misfit walk_end walk_from walked walked_rule coverage_rule
coverage-cases = (refl, (refl, (refl, (refl, (refl, (refl, (refl, (refl, tt))))))))

record Test : Type 0 where
  first : ℕ
  last : ℕ
  ranges : List Row
  answer : Bool

abbrev Tested : List Test → Type 0
Tested [] = Unit {0}
Tested (c ∷ cs) = (tiles c.first c.last c.ranges ≡ c.answer) × Tested cs

abbrev tests : List Test
tests =
    -- nothing tiles nothing
    record { first = 5; last = 9; ranges = []; answer = false }
    -- the same range twice
    ∷ record { first = 5; last = 9; ranges = (5, 9, 1) ∷ (5, 9, 2) ∷ []; answer = false }
    -- past the target, and before it
    ∷ record { first = 5; last = 9; ranges = (5, 10, 1) ∷ []; answer = false }
    ∷ record { first = 5; last = 9; ranges = (4, 9, 1) ∷ []; answer = false }
    ∷ record { first = 5; last = 9; ranges = (5, 7, 1) ∷ (8, 9, 2) ∷ (10, 12, 3) ∷ []; answer = false }
    -- three that tile
    ∷ record { first = 5; last = 9; ranges = (8, 9, 1) ∷ (5, 5, 2) ∷ (6, 7, 3) ∷ []; answer = true }
    ∷ []

pub tiling-cases : Tested tests
unfolding le3 misfit walk_end walk_from walked tiles
tiling-cases = (refl, (refl, (refl, (refl, (refl, (refl, tt))))))
