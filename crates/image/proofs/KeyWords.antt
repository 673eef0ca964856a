-- The words of the indexes behind the image: the key at place p says its row and where its edges begin (key_row, key-start), its row is one
-- of the table (key_room), and what is written before them leaves both indexes (indexed-kept, ready-kept).
-- By the rows of the index read as words. Assumes nothing.
use mathlib.Core.Path.{◌≡◌, sym, ap, ◌∙◌}
use mathlib.Core.List.{List}
use Prim.Native.Nat.{ℕ, ◌+◌, ◌*◌, ◌^◌, ◌<◌, ◌≤◌}
use native.Mathlib.Omega.{arith}
use mir.Val.{Fits}
use mir.Syntax.{w64}
use lib.ListN.{length, get_or}
use Rattle.lists.specs.Sort.{Row}
use Rattle.words.specs.Part.{part, put}
use Rattle.words.proofs.PartLaws.{part_at, part-after, length-put}
use Rattle.sorts.specs.Heap.{at}
use Rattle.sorts.proofs.RowLaws.{rows_at}
use Rattle.rules.specs.Tables.{row_width}
use Rattle.indexes.specs.Index.{segment_index}
use Rattle.indexes.proofs.Keys.{index_at}
use Rattle.image.specs.Written.{Indexed, Placed, Ready}

module _ (w table : List ℕ) (n a : ℕ) (x : Indexed (part w a (3 * n)) table n) (p : ℕ) (below : p < n) where
  abbrev index : List ℕ
  index = part w a (3 * n)

  key : at (segment_index table n) p ≡ (get_or index (3 * p) 0, get_or index (3 * p + 1) 0, get_or index (3 * p + 2) 0)
  key = ap (λ (t : List Row). at t p) (sym x.is) ∙ rows_at index p (omega (arith, x.size))

  pub key_row : get_or w (a + p * 3 + 1) 0 ≡ (at (segment_index table n) p).1
  key_row =
      let e : a + p * 3 + 1 ≡ a + (3 * p + 1) = omega arith in
      rw e (sym (part_at w a (3 * n) (3 * p + 1) (omega arith)) ∙ sym (ap (λ (t : Row). t.1) key))

  pub key-start : get_or w (a + p * 3 + 2) 0 ≡ (at (segment_index table n) p).2
  key-start =
      let e : a + p * 3 + 2 ≡ a + (3 * p + 2) = omega arith in
      rw e (sym (part_at w a (3 * n) (3 * p + 2) (omega arith)) ∙ sym (ap (λ (t : Row). t.2) key))

  key_below : get_or w (a + p * 3 + 1) 0 < n
  key_below = omega (arith, key_row, (index_at table n p below).0.to)

  pub key_room : n * row_width ≤ length table → get_or w (a + p * 3 + 1) 0 * row_width + row_width ≤ length table
  key_room h = omega (arith, key_below)

  pub key_fits : n * row_width ≤ length table → length table * 8 < 2 ^ 63 → Fits w64 (get_or w (a + p * 3 + 1) 0 * row_width)
  key_fits h g = record { fits = omega (arith, key_below) }

-- k words ys are written from `place` on, all of them before a
module _ (w w' : List ℕ) (place k : ℕ) (ys : List ℕ) (e : w' ≡ put w place k ys) (l : length ys ≡ k) (a : ℕ) (before : place + k ≤ a) where
  pub indexed-kept : (table : List ℕ) (n : ℕ) → a + 3 * n ≤ length w → Indexed (part w a (3 * n)) table n → Indexed (part w' a (3 * n)) table n
  indexed-kept table n h x = rw (e, part-after w place k ys l (omega arith) a (3 * n) before) x

  pub ready-kept : (table : List ℕ) (n : ℕ) (places : List ℕ) (m b : ℕ) → Ready w table n places m a b → Ready w' table n places m a b
  ready-kept table n places m b r =
      let fits : place + k ≤ length w = omega (arith, r.apart, r.room) in
      let same : part w' b (3 * m) ≡ part w b (3 * m) = rw e (part-after w place k ys l fits b (3 * m) (omega (arith, r.apart))) in
      let len : length w' ≡ length w = rw e (length-put w place k ys l fits) in
      let second : Placed (part w' b (3 * m)) places m = rw same r.second in
      record {
        apart = r.apart;
        room = omega (arith, r.room);
        segments = r.segments;
        placements = r.placements;
        first = indexed-kept table n (omega (arith, r.apart, r.room)) r.first;
        second = second;
      }
