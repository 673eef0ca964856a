-- The pairs of all rows: those of the rows passed are placed, and there are no more of them than edge words passed.
--     pairs-append, pairs-one     the pairs of rows one behind the other, and of one row
--     gathered-start, gathered_next, gathered-end, gathered-few     the loop over the rows
-- Assumes nothing.
use Prim.Native.Nat.{ℕ, ◌+◌, ◌*◌, ◌≤◌, ◌<◌, ◌^◌, zero-le}
use native.Mathlib.Numerals.{add-one}
use native.Mathlib.Omega.{arith}
use mathlib.Core.Path.{◌≡◌, refl, sym, ap, ◌∙◌}
use mathlib.Core.Bool.{Bool, true, false, cond}
use mathlib.Core.List.{List, [], ◌∷◌, ◌++◌, append_assoc, append-nil}
use mir.Val.{Fits}
use mir.Syntax.{w64}
use lib.ListN.{length, get_or, take, length-map}
use lib.Seq.{take-suc, take_all}
use Rattle.lists.specs.Lists.{has}
use Rattle.rules.specs.Model.{Segment}
use Rattle.rules.specs.Tables.{held_width, stretch, parents_at, children_at, start_of, held_segments}
use Rattle.rules.specs.Delta.{Pair, added_from, pairs_from, known_parents}
use Rattle.rules.proofs.Places.{start-next, start-room, length-stretch}
use Rattle.tabled.specs.Image.{Tabled, segment_in}
use Rattle.tabled.proofs.ByRow.{segments-length, segments-at}
use Rattle.paired.specs.Tables.{known}
use Rattle.paired.specs.declared.pairs.PairKind.{PairKind}
use Rattle.paired.specs.declared.pairs.PairKind.TheVariants.{Split, Merge}
use Rattle.paired.specs.Pairs.{kind_of, pair_of, row_pairs, pairs_of, Placed}
use Rattle.paired.proofs.Placing.{placed-none, placed-then, known-few}

-- ---- the pairs of rows

added-append : (u : List ℕ) (ss ts : List Segment) → added_from u (ss ++ ts) ≡ added_from u ss ++ added_from u ts
unfolding added_from
added-append u [] ts = refl
added-append u (s ∷ ss) ts = go (added-append u ss ts) (has s.head.id u)
  where
    go : added_from u (ss ++ ts) ≡ added_from u ss ++ added_from u ts → (b : Bool) → cond b (added_from u (ss ++ ts)) (s ∷ added_from u (ss ++ ts)) ≡ cond b (added_from u ss) (s ∷ added_from u ss) ++ added_from u ts
    go ih true = ih
    go ih false = ap (λ (l : List Segment). s ∷ l) ih

from-append : (of : ℕ → List ℕ → List Pair) (u : List ℕ) (ss ts : List Segment) → pairs_from of u (ss ++ ts) ≡ pairs_from of u ss ++ pairs_from of u ts
unfolding pairs_from
from-append of u [] ts = refl
from-append of u (s ∷ ss) ts =
    ap (λ (l : List Pair). of s.head.id (known_parents u s) ++ l) (from-append of u ss ts)
    ∙ sym (append_assoc (of s.head.id (known_parents u s)) (pairs_from of u ss) (pairs_from of u ts))

module _ (kind : PairKind) (u : List ℕ) where
  pairs-append : (ss ts : List Segment) → pairs_of kind u (ss ++ ts) ≡ pairs_of kind u ss ++ pairs_of kind u ts
  unfolding pairs_of
  pairs-append ss ts = ap (pairs_from (kind_of kind) u) (added-append u ss ts) ∙ from-append (kind_of kind) u (added_from u ss) (added_from u ts)

  pairs-one : (s : Segment) → pairs_of kind u (s ∷ []) ≡ row_pairs kind u s.head.id s.parents
  unfolding pairs_of row_pairs added_from pairs_from known
  pairs-one s = go (has s.head.id u)
    where
      go : (b : Bool) → pairs_from (kind_of kind) u (cond b [] (s ∷ [])) ≡ cond b [] (kind_of kind s.head.id (known s.parents u))
      go true = refl
      go false = append-nil (kind_of kind s.head.id (known s.parents u))

-- a kind makes no more pairs than there are parents
kind-few : (kind : PairKind) (child : ℕ) (l : List ℕ) → length (kind_of kind child l) ≤ length l
kind-few Split child [] = zero-le
kind-few Split child (x ∷ []) = omega arith
kind-few Split child (x ∷ y ∷ l) = zero-le
kind-few Merge child [] = zero-le
kind-few Merge child (x ∷ []) = zero-le
kind-few Merge child (x ∷ y ∷ l) = omega (arith, length-map (x ∷ y ∷ l) (pair_of Merge child))

row-few : (kind : PairKind) (u : List ℕ) (child : ℕ) (l : List ℕ) → length (row_pairs kind u child l) ≤ length l
unfolding row_pairs
row-few kind u child l = go (has child u)
  where
    go : (b : Bool) → length (cond b [] (kind_of kind child (known l u))) ≤ length l
    go true = zero-le
    go false = omega (arith, kind-few kind child (known l u), known-few u l)

-- ---- the loop

-- what stands when the first i rows are passed: their pairs are placed, and the next parents begin at edge word `from`
pub record Gathered (kind : PairKind) (u R E w₀ w : List ℕ) (n from k i : ℕ) : Type 0 where
  pub here : from ≡ start_of held_width R i
  pub few : k ≤ from
  pub within : from ≤ length E
  pub placed : Placed w₀ w 0 k (pairs_of kind u (take i (held_segments R E n)))

pub gathered-start : (kind : PairKind) (u R E w : List ℕ) (n : ℕ) → Gathered kind u R E w w n 0 0 0
unfolding pairs_of added_from pairs_from
gathered-start kind u R E w n = record { here = refl; few = zero-le; within = zero-le; placed = placed-none w 0 0 _ refl refl }

module _ (kind : PairKind) (u R E w₀ w : List ℕ) (n from k i : ℕ) (p : Gathered kind u R E w₀ w n from k i) (good : Tabled R E n)
    (fits : 3 * length E ≤ length w₀) where
  abbrev row : ℕ
  row = i * held_width

  module _ (below : i < n) where
    edges_room : from + parents_at R row + children_at R row ≤ length E
    edges_room = omega (arith, p.here, start-room held_width R n i (length E) good.counts below)

    module _ (m : ℕ) (said : m ≡ parents_at R row) where
      pub parents-within : from + m ≤ length E
      parents-within = omega (arith, said, edges_room)

      pub parents-fit : length E * 8 < 2 ^ 63 → Fits w64 (from + m)
      parents-fit h = record { fits = omega (arith, said, edges_room) }

      pub pairs-room : 3 * (k + length (stretch E from (from + m))) ≤ length w
      pairs-room = omega (arith, said, p.few, p.placed.size, edges_room, length-stretch E from m (omega (arith, said, edges_room)))

      pub gathered_next : (x next r : ℕ) (w' : List ℕ) → x ≡ get_or R row 0 → next ≡ start_of held_width R (i + 1)
          → Placed w w' k r (row_pairs kind u x (stretch E from (from + m))) → Gathered kind u R E w₀ w' n next r (i + 1)
      gathered_next x next r w' told after q =
          let S : List Segment = held_segments R E n in
          let s : Segment = segment_in R E i in
          let more : take (i + 1) S ≡ take i S ++ (s ∷ []) =
          rw (add-one i, take-suc S i s (rw (segments-length R E n 0 0) below), segments-at R E s n i below) refl in
          let pairs : pairs_of kind u (take (i + 1) S) ≡ pairs_of kind u (take i S) ++ row_pairs kind u s.head.id s.parents =
          rw more (pairs-append kind u (take i S) (s ∷ []) ∙ ap (λ (l : List Pair). pairs_of kind u (take i S) ++ l) (pairs-one kind u s)) in
          let q' : Placed w w' k r (row_pairs kind u s.head.id s.parents) = rw (told, said, p.here) at q in
          let few : length (row_pairs kind u s.head.id s.parents) ≤ parents_at R row =
          omega (arith, row-few kind u s.head.id s.parents, length-stretch E (start_of held_width R i) (parents_at R row) (omega (arith, p.here, edges_room))) in
          let step : start_of held_width R (i + 1) ≡ start_of held_width R i + parents_at R row + children_at R row = start-next held_width R i in
          record {
            here = after;
            few = omega (arith, after, p.here, p.few, q'.count, few, step);
            within = omega (arith, after, p.here, edges_room, step);
            placed = rw pairs (placed-then w₀ w w' 0 k r _ _ p.placed q');
          }

  pub gathered-end : n ≤ i → Placed w₀ w 0 k (pairs_of kind u (held_segments R E n))
  gathered-end h =
      let all : take i (held_segments R E n) ≡ held_segments R E n = take_all i (held_segments R E n) (rw (segments-length R E n 0 0) h) in rw all at p.placed

  pub gathered-few : k ≤ length E
  gathered-few = omega (arith, p.few, p.within)
