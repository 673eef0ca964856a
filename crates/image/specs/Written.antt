-- What the writers of the image say: the held words, key by key of an index. `held_rows` and `held_edges` of the rule book are these, of
-- the index of the whole table. And the indexes that they read, behind the image in one work area.
-- Assumes nothing.
use Rattle.std.specs.Prelude.{ℕ, ◌+◌, ◌*◌, ◌≤◌, ◌≡◌, List, [], ◌∷◌, ◌++◌, length, get_or}
use Rattle.std.proofs.Math.Option.{Option, none, some}
use Rattle.lists.specs.Sort.{Row}
use Rattle.words.specs.Part.{part}
use Rattle.words.specs.Table.{ids, Ascends, where_is, Found, At, Nothing}
use Rattle.sorts.specs.Rows.{rows}
use Rattle.rules.specs.Model.{Site, Placement, site_of}
use Rattle.rules.specs.Tables.{row_width, place_width, head_at, parents_at, children_at, stretch, placement_at, held_words}
use Rattle.indexes.specs.Index.{segment_index, placement_index}

-- the words that f says of each key, one key behind the other
abbrev pub in_turn : (Row → List ℕ) → List Row → List ℕ
in_turn f [] = []
in_turn f (x ∷ l) = f x ++ in_turn f l

-- the held row of the segment row that begins at word w
abbrev pub row_words : List ℕ → List Placement → ℕ → List ℕ
row_words table ps w = held_words (head_at table w) (parents_at table w) (children_at table w) (site_of (get_or table w 0) ps)

abbrev pub key_rows : List ℕ → List Placement → List Row → List ℕ
key_rows table ps l = in_turn (λ (x : Row). row_words table ps (x.1 * row_width)) l

-- the edges of the row that begins at word w, from `at` on
abbrev pub row_edges : List ℕ → List ℕ → ℕ → ℕ → List ℕ
row_edges table edges w at = stretch edges at (at + parents_at table w + children_at table w)

abbrev pub key_edges : List ℕ → List ℕ → List Row → List ℕ
key_edges table edges l = in_turn (λ (x : Row). row_edges table edges (x.1 * row_width) x.2) l

-- ---- a placement, found by its row

-- the row number of the key that was found
abbrev pub row_found : List ℕ → Found → Found
row_found index Nothing = Nothing
row_found index (At q) = At (get_or index (q * 3 + 1) 0)

-- the row of the placement with that id, by an index of m placement rows
abbrev pub place_found : List ℕ → ℕ → ℕ → Found
place_found index m id = row_found index (where_is (ids index 3 m) id)

-- the site of the placement row that was found
abbrev pub site_found : List ℕ → Found → Option Site
site_found places Nothing = none
site_found places (At k) = some (placement_at places (k * place_width)).site

-- what was found is a row of the table
abbrev pub Inside : List ℕ → Found → Type 0
Inside places Nothing = Unit {0}
Inside places (At k) = k * place_width + place_width ≤ length places

-- ---- the indexes

-- these words are the index of the n segment rows
pub record Indexed (index table : List ℕ) (n : ℕ) : Type 0 where
  pub size : length index ≡ 3 * n
  pub is : rows index ≡ segment_index table n

-- these words are the index of the m placement rows, and no id stands there twice
pub record Placed (index places : List ℕ) (m : ℕ) : Type 0 where
  pub size : length index ≡ 3 * m
  pub is : rows index ≡ placement_index places m
  pub once : Ascends (ids index 3 m)

-- both indexes in one work area: that of n segment rows from a on, that of m placement rows from b on
pub record Ready (w table : List ℕ) (n : ℕ) (places : List ℕ) (m a b : ℕ) : Type 0 where
  pub apart : a + 3 * n ≤ b
  pub room : b + 3 * m ≤ length w
  pub segments : n * row_width ≤ length table
  pub placements : m * place_width ≤ length places
  pub first : Indexed (part w a (3 * n)) table n
  pub second : Placed (part w b (3 * m)) places m
