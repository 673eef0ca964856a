-- Ranges in the scratch, three words each: start, end, id.
-- Assumes nothing.
use Rattle.std.specs.Prelude.{ℕ, ◌+◌, ◌≤◌, ◌≡◌, cond, List, [], ◌∷◌, ◌++◌, take, eqb}
use Rattle.lists.specs.Sort.{Row}
use Rattle.sorts.specs.Rows.{rows}
use Rattle.rules.specs.Model.{Segment}
use Rattle.rules.specs.Tiling.{range_of}

-- the first k ranges
abbrev pub ranges : List ℕ → ℕ → List Row
ranges w k = take k (rows w)

-- w' is w with `more` behind its k ranges, which makes them r
pub record Grown (w w' : List ℕ) (k r : ℕ) (more : List Row) : Type 0 where
  pub few : r ≤ k + 1
  pub here : ranges w' r ≡ ranges w k ++ more

-- the range of a segment, if it is Active
abbrev pub active_one : Segment → List Row
active_one s = cond (eqb s.head.state 1) (range_of s ∷ []) []
