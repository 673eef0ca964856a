-- What the loops that fill an index use: after i turns its rows are the first i keys, and then what was there.
-- Assumes nothing.
use Prim.Native.Nat.{ℕ, ◌+◌, ◌*◌, ◌≤◌, ◌<◌}
use native.Mathlib.Numerals.{add-one}
use native.Mathlib.Omega.{arith}
use mathlib.Core.Path.{◌≡◌, refl, ap, ◌∙◌}
use mathlib.Core.List.{List, [], ◌∷◌, ◌++◌, append-nil}
use mir.Val.{Fits}
use mir.Syntax.{w64}
use lib.ListN.{length, get_or, take, drop, set, drop_of_length-le}
use lib.Seq.{take-suc, take_all, length-take-le}
use Rattle.words.proofs.PartLaws.{grow}
use Rattle.lists.specs.Sort.{Row, le3, sorted}
use Rattle.sorts.specs.Rows.{rows}
use Rattle.sorts.specs.Heap.{row0}
use Rattle.sorts.proofs.RowLaws.{rows-length}
use Rattle.rules.specs.Tables.{row_width, place_width, parents_at, children_at, edges_from, start_of}
use Rattle.indexes.specs.Index.{segment_keys, placement_keys, segment_index, placement_index}
use Rattle.rules.proofs.Places.{start-next, start-room}
use Rattle.indexes.proofs.Keys.{keys-at, length-keys, place-keys-at, length-place-keys}

-- for any keys K
fill-next : (K d d' r : List Row) (n i : ℕ) (x : Row) → i < n → length K ≡ n → length r ≡ n → d ≡ take i K ++ drop i r → get_or K i row0 ≡ x
    → d' ≡ set d i x → d' ≡ take (i + 1) K ++ drop (i + 1) r
fill-next K d d' r n i x h k l e f g =
    let more : take i K ++ (x ∷ []) ≡ take (i + 1) K = rw (add-one, take-suc K i row0 (omega arith), f) refl in
    g ∙ ap (λ (t : List Row). set t i x) e ∙ grow row0 (take i K) r i x (length-take-le i K (omega arith)) (omega arith) ∙ ap (λ (t : List Row). t ++ drop (i + 1) r) more

fill_end : (K d r : List Row) (n i : ℕ) → n ≤ i → length K ≡ n → length r ≡ n → d ≡ take i K ++ drop i r → d ≡ K
fill_end K d r n i h k l e =
    e ∙ rw (take_all i K (omega arith), drop_of_length-le r {i = i} (omega arith)) (append-nil K)

-- ---- the segment rows

-- place is where the edges of row i begin: the sums fit
module _ (table : List ℕ) (n i total : ℕ) (all : edges_from row_width table n 0 ≡ total) (below : i < n) (place : ℕ) (here : place ≡ start_of row_width table i) (h : Fits w64 total) where
  pub place-fits : Fits w64 (place + parents_at table (i * row_width))
  place-fits = record { fits = omega (arith, start-room row_width table n i total all below, h.fits) }

  pub place-fits-2 : Fits w64 (place + parents_at table (i * row_width) + children_at table (i * row_width))
  place-fits-2 = record { fits = omega (arith, start-room row_width table n i total all below, h.fits) }

pub place_next : (table : List ℕ) (i place : ℕ) → place ≡ start_of row_width table i
    → place + parents_at table (i * row_width) + children_at table (i * row_width) ≡ start_of row_width table (i + 1)
place_next table i place e = rw (e, start-next row_width table i) refl

module _ (table index index₀ : List ℕ) (n i : ℕ) (len : length index₀ ≡ 3 * n) (rest : rows index ≡ take i (segment_keys table n 0 0) ++ drop i (rows index₀)) where
  pub rows_next : i < n → (index' : List ℕ) (place : ℕ) → place ≡ start_of row_width table i → rows index' ≡ set (rows index) i (get_or table (i * row_width) 0, i, place)
      → rows index' ≡ take (i + 1) (segment_keys table n 0 0) ++ drop (i + 1) (rows index₀)
  rows_next h index' place p e =
      fill-next (segment_keys table n 0 0) (rows index) (rows index') (rows index₀) n i (get_or table (i * row_width) 0, i, place) h (length-keys table n 0 0) (rows-length index₀ n len) rest
      (keys-at table row0 n i h ∙ rw p refl) e

  pub rows_end : n ≤ i → rows index ≡ segment_keys table n 0 0
  rows_end h = fill_end (segment_keys table n 0 0) (rows index) (rows index₀) n i h (length-keys table n 0 0) (rows-length index₀ n len) rest

-- ---- the placement rows

module _ (table index index₀ : List ℕ) (m i : ℕ) (len : length index₀ ≡ 3 * m) (rest : rows index ≡ take i (placement_keys table m 0) ++ drop i (rows index₀)) where
  pub places_next : i < m → (index' : List ℕ) → rows index' ≡ set (rows index) i (get_or table (i * place_width) 0, i, 0)
      → rows index' ≡ take (i + 1) (placement_keys table m 0) ++ drop (i + 1) (rows index₀)
  places_next h index' e =
      fill-next (placement_keys table m 0) (rows index) (rows index') (rows index₀) m i (get_or table (i * place_width) 0, i, 0) h (length-place-keys table m 0) (rows-length index₀ m len) rest
      (place-keys-at table row0 m i h) e

  pub places_end : m ≤ i → rows index ≡ placement_keys table m 0
  places_end h = fill_end (placement_keys table m 0) (rows index) (rows index₀) m i h (length-place-keys table m 0) (rows-length index₀ m len) rest

-- ---- sorted

pub index_is : (table : List ℕ) (n : ℕ) (x k : List Row) → x ≡ sorted le3 k → k ≡ segment_keys table n 0 0 → x ≡ segment_index table n
unfolding segment_index
index_is table n x k e f = e ∙ ap (sorted le3) f

pub place_index_is : (table : List ℕ) (m : ℕ) (x k : List Row) → x ≡ sorted le3 k → k ≡ placement_keys table m 0 → x ≡ placement_index table m
unfolding placement_index
place_index_is table m x k e f = e ∙ ap (sorted le3) f
