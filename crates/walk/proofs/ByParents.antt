-- The parents of an id, from the rows of a table that ascends by id:
--     parents-row     the row of an id has its parents
--     parents-none    an id without a row has no parents
--     row_at, row_is  a row is found by its own id, and what is found is the row of the id
--     words_are       the edge words of the segments are the words of the edge table
-- Assumes nothing.
use Prim.Native.Nat.{ℕ, zero, suc, ◌+◌, ◌*◌, ◌<◌, ◌≤◌}
use native.Mathlib.Omega.{arith}
use mathlib.Core.Path.{◌≡◌, refl, sym, ap, ◌∙◌}
use mathlib.Core.List.{List, []}
use lib.ListN.{length, get_or}
use Rattle.words.specs.Table.{ids, where_is, Ascends, Found, At, Nothing}
use Rattle.words.proofs.TableLaws.{length_ids, ids_at, is_at, row-found}
use Rattle.rules.specs.Tables.{held_width, parents_at, children_at, start_of, edges_from, segments_from, held_segments}
use Rattle.rules.specs.Ancestors.{parents_of, edge_words}
use Rattle.rules.specs.Ordering.{parents_in}
use Rattle.rules.proofs.Ascended.{parents-lookup}
use Rattle.rules.proofs.Places.{start-next, length-stretch}
use Rattle.tabled.specs.Image.{segment_in, segment_found}
use Rattle.tabled.proofs.ByRow.{lookup-found}

module _ (rows edges : List ℕ) (n : ℕ) where
  parents-found : (x : ℕ) → parents_of (held_segments rows edges n) x ≡ parents_in (segment_found rows edges (where_is (ids rows held_width n) x))
  parents-found x = parents-lookup x (held_segments rows edges n) ∙ ap parents_in (lookup-found rows edges x n)

  pub parents-none : (x : ℕ) → where_is (ids rows held_width n) x ≡ Nothing → parents_of (held_segments rows edges n) x ≡ []
  parents-none x e = parents-found x ∙ ap (λ (f : Found). parents_in (segment_found rows edges f)) e

  pub parents-at : (x r : ℕ) → where_is (ids rows held_width n) x ≡ At r → parents_of (held_segments rows edges n) x ≡ (segment_in rows edges r).parents
  parents-at x r e = parents-found x ∙ ap (λ (f : Found). parents_in (segment_found rows edges f)) e

  -- what is found is the row of the id
  pub row_is : (x r : ℕ) → where_is (ids rows held_width n) x ≡ At r → (r < n) × (get_or rows (r * held_width) 0 ≡ x)
  row_is x r e = row-found rows held_width n x r e

  module _ (up : Ascends (ids rows held_width n)) where
    -- a row is found by its own id
    pub row_at : (r : ℕ) → r < n → where_is (ids rows held_width n) (get_or rows (r * held_width) 0) ≡ At r
    row_at r h =
        is_at (ids rows held_width n) (get_or rows (r * held_width) 0) r (rw length_ids h) (ids_at rows held_width n r h)
        (λ j k e. lower j k (e ∙ sym (ids_at rows held_width n r h)))
      where
        lower : (j : ℕ) → j < r → get_or (ids rows held_width n) j 0 ≡ get_or (ids rows held_width n) r 0 → ⊥
        lower j k e = omega (arith, up j r k (rw length_ids h))

    pub parents-row : (r : ℕ) → r < n → parents_of (held_segments rows edges n) (get_or rows (r * held_width) 0) ≡ (segment_in rows edges r).parents
    parents-row r h = parents-at (get_or rows (r * held_width) 0) r (row_at r h)

-- the edge words of the segments are those of the rows
words-from : (rows edges : List ℕ) (n i : ℕ) → start_of held_width rows i + edges_from held_width rows n i ≤ length edges
    → edge_words (segments_from held_width rows edges n i (start_of held_width rows i)) ≡ edges_from held_width rows n i
unfolding edge_words
words-from rows edges zero i h = refl
words-from rows edges (suc n) i h =
    let w : ℕ = i * held_width in
    let st : ℕ = start_of held_width rows i in
    let p : length (segment_in rows edges i).parents ≡ parents_at rows w = length-stretch edges st (parents_at rows w) (omega arith) in
    let c : length (segment_in rows edges i).children ≡ children_at rows w = length-stretch edges (st + parents_at rows w) (children_at rows w) (omega arith) in
    let next : start_of held_width rows (i + 1) ≡ st + parents_at rows w + children_at rows w = start-next held_width rows i in
    let ih : edge_words (segments_from held_width rows edges n (i + 1) (start_of held_width rows (i + 1))) ≡ edges_from held_width rows n (i + 1) = words-from rows edges n (i + 1) (omega arith) in
    rw (p, c, ← next, ih) refl

pub words_are : (rows edges : List ℕ) (n : ℕ) → edges_from held_width rows n 0 ≡ length edges → edge_words (held_segments rows edges n) ≡ length edges
words_are rows edges n e = words-from rows edges n 0 (omega arith) ∙ e
