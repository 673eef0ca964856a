-- The pairs of all rows: those that stand there, and those of the rows to come, are all of them.
--     fill_start, fill-next, fill_end     the loop over the rows (`Filling`)
--     row_in, row_room, pairs-room        a row's words, its edges and its pairs have room
--     pairs_size, index_is                how many pairs there are; sorted, they are the index
-- By the rest of the table, one row less each turn. Assumes nothing.
use Prim.Native.Nat.{ℕ, zero, suc, ◌+◌, ◌-◌, ◌*◌, ◌≤◌, ◌<◌}
use native.Mathlib.Nat.{sub-zero}
use native.Mathlib.Omega.{arith}
use mathlib.Core.Path.{◌≡◌, refl, sym, ap, ◌∙◌}
use mathlib.Core.List.{List, ◌++◌, map, append_assoc, append-nil}
use lib.ListN.{length, get_or, take, length-append, length-map}
use lib.Seq.{take_all, length-take-le}
use Rattle.lists.specs.Sort.{Row, le3, sorted}
use Rattle.words.proofs.TableLaws.{field_in}
use Rattle.sorts.specs.Rows.{rows}
use Rattle.sorts.proofs.RowLaws.{rows-length}
use Rattle.types.specs.declared.records.Side.{Side}
use Rattle.types.specs.declared.records.Side.TheVariants.{Parents, Children}
use Rattle.rules.specs.Tables.{head_width, parents_at, children_at, segment_at, segments_from, edges_from, start_of}
use Rattle.rules.proofs.Places.{start-next, start-room, length-stretch}
use Rattle.lookups.specs.Sides.{pair_of, pairs_of, side_of, side_at, sides_from, pair_index}

-- the words of row i that all tables have
pub row_in : (i n width len : ℕ) → i < n → head_width ≤ width → n * width ≤ len → i * width + head_width ≤ len
row_in i n width len h p q = omega (arith, field_in i n width 10 len h (omega arith) q)

length-side : (b : Side) (table edges : List ℕ) (w place : ℕ) → place + parents_at table w + children_at table w ≤ length edges
    → length (side_of b (segment_at table edges w place)) ≡ side_at b table w
length-side Parents table edges w place h = length-stretch edges place (parents_at table w) (omega arith)
length-side Children table edges w place h = length-stretch edges (place + parents_at table w) (children_at table w) h

module _ (b : Side) (width : ℕ) (table edges : List ℕ) where
  abbrev pairs_from : ℕ → ℕ → ℕ → List Row
  pairs_from n i place = pairs_of (side_of b) (segments_from width table edges n i place)

  -- k pairs stand, of the rows before row i, whose edges begin at `place`
  pub record Filling (n : ℕ) (pairs : List ℕ) (i place k : ℕ) : Type 0 where
    pub below : i ≤ n
    pub here : place ≡ start_of width table i
    pub fits : k ≤ length (pairs_from n 0 0)
    pub rest : pairs_from n 0 0 ≡ take k (rows pairs) ++ pairs_from (n - i) i place

  pub fill_start : (n : ℕ) (pairs : List ℕ) → Filling n pairs 0 0 0
  fill_start n pairs = record { below = omega arith; here = refl; fits = omega arith; rest = simp sub-zero }

  module _ (n : ℕ) (pairs : List ℕ) (i place k len : ℕ) (f : Filling n pairs i place k) (same : length pairs ≡ len) (room : len ≡ 3 * length (pairs_from n 0 0)) where
    size : length pairs ≡ 3 * length (pairs_from n 0 0)
    size = same ∙ room

    pub fill_end : n ≤ i → rows pairs ≡ pairs_from n 0 0
    fill_end h =
        let z : n - i ≡ 0 = omega arith in
        let e : pairs_from n 0 0 ≡ take k (rows pairs) = f.rest ∙ rw z (append-nil (take k (rows pairs))) in
        let l : length (rows pairs) ≡ length (pairs_from n 0 0) = rows-length pairs (length (pairs_from n 0 0)) size in
        let c : length (pairs_from n 0 0) ≡ k = ap length e ∙ length-take-le k (rows pairs) (omega (arith, f.fits)) in
        sym (e ∙ take_all k (rows pairs) (omega arith))

    module _ (less : i < n) (all : edges_from width table n 0 ≡ length edges) where
      abbrev w : ℕ
      w = i * width

      abbrev list : List ℕ
      list = side_of b (segment_at table edges w place)

      abbrev next : ℕ
      next = place + parents_at table w + children_at table w

      pub row_room : next ≤ length edges
      row_room = omega (arith, start-room width table n i (length edges) all less, f.here)

      open_up : pairs_from n 0 0 ≡ take k (rows pairs) ++ (map (pair_of (get_or table w 0)) list ++ pairs_from (n - (i + 1)) (i + 1) next)
      open_up = let e : n - i ≡ suc (n - (i + 1)) = omega arith in f.rest ∙ rw e refl

      more : k + length list ≤ length (pairs_from n 0 0)
      more =
          let a : length (pairs_from n 0 0)
          ≡ length (take k (rows pairs)) + (length (map (pair_of (get_or table w 0)) list) + length (pairs_from (n - (i + 1)) (i + 1) next)) =
          ap length open_up ∙ simp length-append in
          let c : length (take k (rows pairs)) ≡ k = length-take-le k (rows pairs) (omega (arith, rows-length pairs (length (pairs_from n 0 0)) size, f.fits)) in
          omega (arith, a, c, length-map list (pair_of (get_or table w 0)))

      pub pairs-room : 3 * (k + length list) ≤ length pairs
      pairs-room = omega (arith, more, size)

      pub fill-next : (r : ℕ) (pairs' : List ℕ) → r ≡ k + length list → take r (rows pairs') ≡ take k (rows pairs) ++ map (pair_of (get_or table w 0)) list
          → Filling n pairs' (i + 1) next r
      fill-next r pairs' e g = record {
        below = omega arith;
        here = rw (f.here, start-next width table i) refl;
        fits = omega (arith, more);
        rest = open_up ∙ sym (append_assoc (take k (rows pairs)) (map (pair_of (get_or table w 0)) list) (pairs_from (n - (i + 1)) (i + 1) next))
            ∙ ap (λ (t : List Row). t ++ pairs_from (n - (i + 1)) (i + 1) next) (sym g);
      }

  -- ---- how many pairs there are

  length_pairs : (n i place : ℕ) → place + edges_from width table n i ≤ length edges → length (pairs_from n i place) ≡ sides_from b width table n i
  length_pairs zero i place h = refl
  length_pairs (suc n) i place h =
      let w : ℕ = i * width in
      let next : ℕ = place + parents_at table w + children_at table w in
      let list : List ℕ = side_of b (segment_at table edges w place) in
      let a = length-append (map (pair_of (get_or table w 0)) list) (pairs_from n (i + 1) next) in
      let c = length-map list (pair_of (get_or table w 0)) in
      let d : length list ≡ side_at b table w = length-side b table edges w place (omega arith) in
      let e = length_pairs n (i + 1) next (omega arith) in
      omega (arith, a, c, d, e)

  pub pairs_size : (pairs : List ℕ) (n k : ℕ) → edges_from width table n 0 ≡ length edges → sides_from b width table n 0 ≡ k → length pairs ≡ 3 * k
      → length pairs ≡ 3 * length (pairs_from n 0 0)
  pairs_size pairs n k all count size = omega (arith, length_pairs n 0 0 (omega arith))

  pub index_is : (n : ℕ) (x r : List Row) → x ≡ sorted le3 r → r ≡ pairs_from n 0 0 → x ≡ pair_index b width table edges n
  unfolding pair_index
  index_is n x r e f = e ∙ ap (sorted le3) f

-- what `fill_pairs` rests on
pub ruleset filling = (fill_start, fill-next, fill_end, row_in, row_room, pairs-room)
