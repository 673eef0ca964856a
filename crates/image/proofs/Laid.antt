-- What a caller learns of the image that `write_image` leaves and of the areas that `store_image` fills:
--     image-rows, image-edges         its two parts are the held tables of the rule book
--     image-segments                  read back, it is the segments in ascending order
--     image-laid                      where no id stands twice, it is an `Image`
--     stored-rows, stored-edges       the held areas then begin with the held tables
--     copied_first, copied_behind     a part of the work area as it was copied
-- By the laws of `put`, and by the tables read back (HeldSegments of the rule book). Assumes nothing.
use mathlib.Core.Path.{◌≡◌, refl, sym, ap, ◌∙◌}
use mathlib.Core.List.{List, [], ◌∷◌, ◌++◌, map}
use mathlib.Core.Logic.{inl, inr}
use Prim.Native.Nat.{ℕ, zero, suc, ◌+◌, ◌-◌, ◌*◌, ◌≤◌}
use native.Mathlib.Omega.{arith}
use native.Mathlib.Nat.{zero-add}
use lib.ListN.{length, get_or, take, length-append, length-map, get_or-map}
use lib.Seq.{take_at, take_all, drop_at}
use Rattle.lists.specs.Lists.{front}
use Rattle.lists.specs.Sort.{Row}
use Rattle.lists.proofs.SortLaws.{In}
use Rattle.words.specs.Part.{part, put}
use Rattle.words.specs.Table.{ids, Ascends}
use Rattle.words.proofs.PartLaws.{part-as, part-put, part_in, length-put}
use Rattle.sorts.specs.Heap.{row0}
use Rattle.rules.specs.Model.{Segment, Placement, by_id, ids_of}
use Rattle.rules.specs.Tables.{row_width, held_width, parents_at, children_at, segments_from, segments, edges_from, held_rows, held_edges}
use Rattle.rules.proofs.HeldSegments.{held-segments, count-edges}
use Rattle.tabled.specs.Image.{Image, image_rows, image_edges, image_segments}
use Rattle.tabled.proofs.ByRow.{ids-segments}
use Rattle.words.specs.Twins.{NoTwins}
use Rattle.indexes.specs.Index.{segment_index}
use Rattle.indexes.proofs.Keys.{segment_of_key, by_id-index, index_in, length-index}
use Rattle.indexes.proofs.Once.{index-up}
use Rattle.image.proofs.HeldWords.{held-rows-size, held-edges-size}

pub length_from : (rows edges : List ℕ) (n i place : ℕ) → length (segments_from row_width rows edges n i place) ≡ n
length_from rows edges zero i place = refl
length_from rows edges (suc n) i place = ap suc (length_from rows edges n (i + 1) (place + parents_at rows (i * row_width) + children_at rows (i * row_width)))

-- the ids in ascending order are those of the index
module _ (table edges : List ℕ) (n : ℕ) where
  abbrev key-id : Row → ℕ
  key-id x = x.0

  ids-of : (l : List Row) → ((x : Row) → In x l → In x (segment_index table n)) → ids_of (map (segment_of_key table edges) l) ≡ map key-id l
  ids-of [] h = refl
  ids-of (x ∷ l) h =
      let id : get_or table (x.1 * row_width) 0 ≡ x.0 = sym (index_in table n x (h x (inl refl))).0.id in
      λ j. id j ∷ ids-of l (λ y m. h y (inr m)) j

  sorted-ids : ids_of (by_id (segments table edges n)) ≡ map key-id (segment_index table n)
  sorted-ids = ap ids_of (by_id-index table edges n) ∙ ids-of (segment_index table n) (λ x h. h)

  ids_up : NoTwins table row_width n → Ascends (ids_of (by_id (segments table edges n)))
  ids_up once = rw sorted-ids up
    where
      up : Ascends (map key-id (segment_index table n))
      up p q h k =
          let len : length (map key-id (segment_index table n)) ≡ n = length-map (segment_index table n) key-id ∙ length-index table n in
          omega (arith, get_or-map key-id (segment_index table n) p row0, get_or-map key-id (segment_index table n) q row0, index-up table n once p q h (omega arith))

-- ---- the image

module _ (w₀ w table edges : List ℕ) (n : ℕ) (ps : List Placement) (all : edges_from row_width table n 0 ≡ length edges) (room : n * held_width + length edges ≤ length w₀)
    (laid : w ≡ put w₀ 0 (n * held_width + length edges) (held_rows (segments table edges n) ps ++ held_edges (segments table edges n) ps)) where
  abbrev ss : List Segment
  ss = segments table edges n

  abbrev R : List ℕ
  R = held_rows ss ps

  abbrev E : List ℕ
  E = held_edges ss ps

  rows-size : length R ≡ n * held_width
  rows-size = held-rows-size table edges n all ps

  edges-size : length E ≡ length edges
  edges-size = held-edges-size table edges n all ps

  size : length (R ++ E) ≡ n * held_width + length edges
  size = length-append R E ∙ omega (arith, rows-size, edges-size)

  fits : 0 + (n * held_width + length edges) ≤ length w₀
  fits = omega arith

  -- a part of the image
  image-part : (i k : ℕ) → i + k ≤ n * held_width + length edges → part w i k ≡ part (R ++ E) i k
  image-part i k h =
      let z : 0 + i ≡ i = zero-add i in
      let whole : part w 0 (n * held_width + length edges) ≡ R ++ E = rw laid (part-put w₀ 0 (n * held_width + length edges) (R ++ E) size fits) in
      sym (part_in w 0 (n * held_width + length edges) i k h ∙ ap (λ (j : ℕ). part w j k) z) ∙ ap (λ (t : List ℕ). part t i k) whole

  pub image-rows : image_rows w n ≡ held_rows ss ps
  image-rows = image-part 0 (n * held_width) (omega arith) ∙ take_at R E (n * held_width) rows-size

  pub image-edges : image_edges w n (length edges) ≡ held_edges ss ps
  image-edges =
      image-part (n * held_width) (length edges) (omega arith) ∙ ap (take (length edges)) (drop_at R E (n * held_width) rows-size)
      ∙ take_all (length edges) E (omega (arith, edges-size))

  pub image-segments : image_segments w n (length edges) ≡ by_id ss
  image-segments = rw (image-rows, image-edges) (held-segments ss ps n (length_from table edges n 0 0))

  pub image-laid : NoTwins table row_width n → Image w n (length edges)
  image-laid once =
      let counts : edges_from held_width (image_rows w n) n 0 ≡ length (image_edges w n (length edges)) = rw (image-rows, image-edges) (count-edges ss ps n (length_from table edges n 0 0)) in
      let names : ids (image_rows w n) held_width n ≡ ids_of (by_id ss) = sym (ids-segments (image_rows w n) (image_edges w n (length edges)) n) ∙ ap ids_of image-segments in
      record {
        room = rw laid (rw (length-put w₀ 0 (n * held_width + length edges) (R ++ E) size fits) room);
        tabled = record { size = ap length image-rows ∙ rows-size; counts = counts; up = rw names (ids_up table edges n once) };
      }

  -- ---- the held areas that it is copied to

  pub stored-rows : (held held' : List ℕ) → held' ≡ front (part w 0 (n * held_width)) held → held' ≡ front (held_rows ss ps) held
  stored-rows held held' e = e ∙ ap (λ (t : List ℕ). front t held) image-rows

  pub stored-edges : (links links' : List ℕ) → links' ≡ front (part w (n * held_width) (length edges)) links → links' ≡ front (held_edges ss ps) links
  stored-edges links links' e = e ∙ ap (λ (t : List ℕ). front t links) image-edges

-- a part of the work area, lent up to `to` and copied to the front of l
module _ (w l l' : List ℕ) where
  copied : (a to k : ℕ) → a + k ≡ to → l' ≡ put l 0 (length (part w a (to - a))) (part w a (to - a)) → l' ≡ front (part w a k) l
  copied a to k q e = rw (part-as w a to k q) at e

  pub copied_first : (k : ℕ) → l' ≡ put l 0 (length (part w 0 (k - 0))) (part w 0 (k - 0)) → l' ≡ front (part w 0 k) l
  copied_first k e = copied 0 k k (zero-add k) e

  pub copied_behind : (a k : ℕ) → l' ≡ put l 0 (length (part w a (a + k - a))) (part w a (a + k - a)) → l' ≡ front (part w a k) l
  copied_behind a k e = copied a (a + k) k refl e
