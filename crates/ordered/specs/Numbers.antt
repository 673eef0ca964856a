-- The graph of a table of n held rows with its edges: node i is row i, and an edge word becomes the number of the row that has that id.
-- Assumes nothing.
use Rattle.std.specs.Prelude.{List, [], ◌∷◌, ◌++◌, map, ℕ, zero, suc, ◌+◌, ◌*◌, get_or}
use Rattle.words.specs.Table.{ids, where_is, Found, At, Nothing}
use Rattle.rules.specs.Tables.{held_width, parents_at, start_of}

-- where the parents of row i begin, and where its children begin
abbrev pub offsets_at : List ℕ → ℕ → List ℕ
offsets_at rows i = start_of held_width rows i ∷ (start_of held_width rows i + parents_at rows (i * held_width)) ∷ []

-- those of the first i rows
unfoldable pub offsets_below : List ℕ → ℕ → List ℕ
offsets_below rows zero = []
offsets_below rows (suc i) = offsets_below rows i ++ offsets_at rows i

-- those of n rows, and where the last children end
abbrev pub offsets : List ℕ → ℕ → List ℕ
offsets rows n = offsets_below rows n ++ (start_of held_width rows n ∷ [])

-- the row that was found
abbrev pub row_of : Found → ℕ
row_of (At r) = r
row_of Nothing = 0

abbrev pub node_named : List ℕ → ℕ → ℕ → ℕ
node_named rows n id = row_of (where_is (ids rows held_width n) id)

abbrev pub node_edges : List ℕ → ℕ → List ℕ → List ℕ
node_edges rows n edges = map (node_named rows n) edges

-- the id of node k
abbrev pub id_in : List ℕ → ℕ → ℕ
id_in rows k = get_or rows (k * held_width) 0
