-- What the order of held tables asks, and what it leaves.
-- Assumes nothing.
use Rattle.std.specs.Prelude.{◌≡◌, List, map, ℕ, ◌<◌, length, get_or}
use Rattle.words.specs.Table.{ids, where_is, At}
use Rattle.rules.specs.Tables.{held_width}
use Rattle.rules.specs.Order.{Ordered, in_order, too_deep, cyclic}
use Rattle.held.specs.declared.Held.{Held}

-- each edge word is the id of a row
abbrev pub Closed : Held → Type 0
Closed held = (k : ℕ) → k < length held.edges.now → (r : ℕ) × (where_is (ids held.rows.now held_width held.count) (get_or held.edges.now k 0) ≡ At r)

-- the same order, each taken by another name
abbrev pub named : (ℕ → ℕ) → Ordered → Ordered
named f (in_order xs) = in_order (map f xs)
named f (too_deep e) = too_deep e
named f cyclic = cyclic

-- the order list that is left where there is one; otherwise nothing is said of its words
abbrev pub OrderLeft : Ordered → List ℕ → Type 0
OrderLeft (in_order xs) l = l ≡ xs
OrderLeft (too_deep e) l = Unit {0}
OrderLeft cyclic l = Unit {0}
