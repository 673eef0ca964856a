-- Held tables at the front of longer areas, cut to size, are the same tables:
--     cut-segments     they have the same segments
--     cut-tabled       they are a table of h rows ascending by id
-- Assumes nothing.
use Prim.Native.Nat.{ℕ, zero, suc, ◌+◌, ◌-◌, ◌*◌, ◌<◌, ◌≤◌}
use native.Mathlib.Nat.{zero-add}
use native.Mathlib.Omega.{arith}
use mathlib.Core.Path.{◌≡◌, refl, sym, ◌∙◌}
use mathlib.Core.List.{List, ◌∷◌}
use lib.ListN.{length, get_or, take}
use lib.Seq.{get_or-take, length-take-le, ext_get_or}
use Rattle.words.specs.Table.{ids, Ascends}
use Rattle.words.proofs.PartLaws.{part_in}
use Rattle.words.proofs.TableLaws.{length_ids, ids_at}
use Rattle.rules.specs.Tables.{held_width, optional, stretch, parents_at, children_at, segment_at, segments_from, held_segments, edges_from}
use Rattle.tabled.specs.Image.{Tabled}

-- a stretch of an edge table cut behind it
cut-stretch : (edges : List ℕ) (g from to : ℕ) → from ≤ to → to ≤ g → stretch (take g edges) from to ≡ stretch edges from to
cut-stretch edges g from to h k =
    let e : 0 + from ≡ from = zero-add from in
    rw e at (part_in edges 0 g from (to - from) (omega arith))

module _ (rows edges : List ℕ) (h g : ℕ) where
  abbrev cut_rows : List ℕ
  cut_rows = take (h * held_width) rows

  -- word k of row i is the same
  word : (i k : ℕ) → i < h → k < held_width → get_or cut_rows (i * held_width + k) 0 ≡ get_or rows (i * held_width + k) 0
  word i k l m = get_or-take (h * held_width) rows (i * held_width + k) 0 (omega arith)

  segment : (i from : ℕ) → i < h → from + parents_at rows (i * held_width) + children_at rows (i * held_width) ≤ g → segment_at cut_rows (take g edges) (i * held_width) from ≡ segment_at rows edges (i * held_width) from
  segment i from l room =
      let w : ℕ = i * held_width in
      let id : get_or cut_rows w 0 ≡ get_or rows w 0 = get_or-take (h * held_width) rows w 0 (omega arith) in
      let p : parents_at cut_rows w ≡ parents_at rows w = word i 9 l (omega arith) in
      let c : children_at cut_rows w ≡ children_at rows w = word i 10 l (omega arith) in
      let ps : stretch (take g edges) from (from + parents_at cut_rows w) ≡ stretch edges from (from + parents_at rows w) =
      rw p (cut-stretch edges g from (from + parents_at rows w) (omega arith) (omega arith)) in
      let cs : stretch (take g edges) (from + parents_at cut_rows w) (from + parents_at cut_rows w + children_at cut_rows w) ≡ stretch edges (from + parents_at rows w) (from + parents_at rows w + children_at rows w) =
      rw (p, c) (cut-stretch edges g (from + parents_at rows w) (from + parents_at rows w + children_at rows w) (omega arith) room) in
      λ j. record {
        head = record {
          id = id j;
          start = word i 1 l (omega arith) j;
          end = word i 2 l (omega arith) j;
          state = word i 3 l (omega arith) j;
          created = word i 4 l (omega arith) j;
          sealed = optional (word i 5 l (omega arith) j) (word i 6 l (omega arith) j);
          legacy = optional (word i 7 l (omega arith) j) (word i 8 l (omega arith) j);
        };
        parents = ps j;
        children = cs j;
      }

  from : (n i at : ℕ) → i + n ≤ h → at + edges_from held_width rows n i ≤ g → segments_from held_width cut_rows (take g edges) n i at ≡ segments_from held_width rows edges n i at
  from zero i at l k = refl
  from (suc n) i at l k =
      let w : ℕ = i * held_width in
      let p : parents_at cut_rows w ≡ parents_at rows w = word i 9 (omega arith) (omega arith) in
      let c : children_at cut_rows w ≡ children_at rows w = word i 10 (omega arith) (omega arith) in
      let s : segment_at cut_rows (take g edges) w at ≡ segment_at rows edges w at = segment i at (omega arith) (omega arith) in
      let r : segments_from held_width cut_rows (take g edges) n (i + 1) (at + parents_at cut_rows w + children_at cut_rows w) ≡ segments_from held_width rows edges n (i + 1) (at + parents_at rows w + children_at rows w) =
      rw (p, c) (from n (i + 1) (at + parents_at rows w + children_at rows w) (omega arith) (omega arith)) in
      λ j. s j ∷ r j

  counts : (n i : ℕ) → i + n ≤ h → edges_from held_width cut_rows n i ≡ edges_from held_width rows n i
  counts zero i l = refl
  counts (suc n) i l = omega (arith, word i 9 (omega arith) (omega arith), word i 10 (omega arith) (omega arith), counts n (i + 1) (omega arith))

  cut-ids : ids cut_rows held_width h ≡ ids rows held_width h
  cut-ids =
      ext_get_or 0 (ids cut_rows held_width h) (ids rows held_width h) (length_ids cut_rows held_width h ∙ sym (length_ids rows held_width h))
      (λ i k. each i (rw length_ids at k))
    where
      each : (i : ℕ) → i < h → get_or (ids cut_rows held_width h) i 0 ≡ get_or (ids rows held_width h) i 0
      each i l = ids_at cut_rows held_width h i l ∙ get_or-take (h * held_width) rows (i * held_width) 0 (omega arith) ∙ sym (ids_at rows held_width h i l)

  module _ (fit : h * held_width ≤ length rows) (sum : edges_from held_width rows h 0 ≡ g) where
    pub cut-segments : held_segments cut_rows (take g edges) h ≡ held_segments rows edges h
    cut-segments = from h 0 0 (omega arith) (omega arith)

    pub cut-tabled : g ≤ length edges → Ascends (ids rows held_width h) → Tabled cut_rows (take g edges) h
    cut-tabled room up =
        record {
          size = length-take-le (h * held_width) rows fit;
          counts = counts h 0 (omega arith) ∙ sum ∙ sym (length-take-le g edges room);
          up = rw cut-ids up;
        }
