-- What the delta and its pairs read: two tables of held rows ascending by id, the new one and the old one; and what they ask of their ids.
-- Assumes nothing.
use Rattle.std.specs.Prelude.{ℕ, ◌*◌, ◌≤◌, not, List, length}
use Rattle.lists.specs.Lists.{has}
use Rattle.lists.specs.Sets.{keep}
use Rattle.words.specs.Table.{ids, Ascends}
use Rattle.rules.specs.Tables.{held_width}

-- the first n rows of t ascend by id
pub record Rows (t : List ℕ) (n : ℕ) : Type 0 where
  pub room : n * held_width ≤ length t
  pub up : Ascends (ids t held_width n)

abbrev pub ids_in : List ℕ → ℕ → List ℕ
ids_in t n = ids t held_width n

-- those of `these` that `those` lack: added, where these are the new ids and those the old; removed, the other way round
unfoldable pub lacking : List ℕ → List ℕ → List ℕ
lacking these those = keep (λ (x : ℕ). not (has x those)) these

-- those of `these` that `those` have
unfoldable pub known : List ℕ → List ℕ → List ℕ
known these those = keep (λ (x : ℕ). has x those) these
