-- Which rows of a table repeat the id of an earlier row, as one word a row.
-- Assumes nothing.
use Rattle.std.specs.Prelude.{cond, ◌≡◌, List, ℕ, ◌*◌, ◌<◌, length, get_or, take}
use Rattle.lists.specs.Lists.{has}

-- 1 where the id of row i stands among those before it, else 0
abbrev pub twin : List ℕ → ℕ → ℕ
twin ids i = cond (has (get_or ids i 0) (take i ids)) 1 0

-- ys says it of each row
pub record Twins (ids ys : List ℕ) : Type 0 where
  pub len : length ys ≡ length ids
  pub each : (i : ℕ) → i < length ids → get_or ys i 0 ≡ twin ids i

-- no two of the first n rows of a table have one id: what 6 establishes for placements and 8 for segments
abbrev pub NoTwins : List ℕ → ℕ → ℕ → Type 0
NoTwins table width n = (i j : ℕ) → i < j → j < n → get_or table (i * width) 0 ≡ get_or table (j * width) 0 → ⊥
