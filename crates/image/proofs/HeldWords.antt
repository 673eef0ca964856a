-- The words of all keys are those of the rule book (held-rows, held-edges), they are as many as the tables say (held-rows-size,
-- held-edges-size), and both parts together are the image (rows-kept, image-written).
-- By the index as the list of segments in ascending order (by_id-index), key by key. Assumes nothing.
use mathlib.Core.Path.{◌≡◌, refl, sym, ap, ◌∙◌}
use mathlib.Core.List.{List, [], ◌∷◌, ◌++◌, map}
use mathlib.Core.Logic.{inl, inr}
use Prim.Native.Nat.{ℕ, ◌+◌, ◌*◌, ◌≤◌}
use native.Mathlib.Omega.{arith}
use native.Mathlib.Nat.{zero-add}
use lib.ListN.{length, get_or}
use Rattle.lists.specs.Sort.{Row}
use Rattle.lists.proofs.SortLaws.{In}
use Rattle.words.specs.Part.{part, put}
use Rattle.words.proofs.PutMore.{put-join}
use Rattle.rules.specs.Model.{Segment, Placement, site_of, held_of}
use Rattle.rules.specs.Tables.{row_width, held_width, head_at, parents_at, children_at, segments, edges_from, held_words, rows_of, edges_of, held_rows, held_edges}
use Rattle.rules.proofs.Places.{start-room, length-stretch, join-stretch}
use Rattle.indexes.specs.Index.{segment_index}
use Rattle.indexes.proofs.Keys.{segment_of_key, by_id-index, index_in, length-index}
use Rattle.image.specs.Written.{key_rows, key_edges, Indexed, Ready}
use Rattle.image.proofs.KeyWords.{indexed-kept}
use Rattle.image.proofs.Rows.{rows-length}
use Rattle.image.proofs.Edges.{edges-size}

edges-of : (table edges : List ℕ) (ps : List Placement) (l : List Row) → edges_of (map (held_of ps) (map (segment_of_key table edges) l)) ≡ key_edges table edges l
edges-of table edges ps [] = refl
edges-of table edges ps (x ∷ l) =
    λ k. join-stretch edges x.2 (parents_at table (x.1 * row_width)) (children_at table (x.1 * row_width)) k ++ edges-of table edges ps l k

module _ (table edges : List ℕ) (n : ℕ) (all : edges_from row_width table n 0 ≡ length edges) (ps : List Placement) where
  -- the counts of a key are those of the stretches that it stands for
  rows-of : (l : List Row) → ((x : Row) → In x l → In x (segment_index table n)) → rows_of (map (held_of ps) (map (segment_of_key table edges) l)) ≡ key_rows table ps l
  rows-of [] h = refl
  rows-of (x ∷ l) h =
      let k = index_in table n x (h x (inl refl)) in
      let w : ℕ = x.1 * row_width in
      let r : x.2 + parents_at table w + children_at table w ≤ length edges = omega (arith, start-room row_width table n x.1 (length edges) all k.0.to, k.1.at) in
      let a : length (segment_of_key table edges x).parents ≡ parents_at table w = length-stretch edges x.2 (parents_at table w) (omega arith) in
      let b : length (segment_of_key table edges x).children ≡ children_at table w = length-stretch edges (x.2 + parents_at table w) (children_at table w) r in
      let s = site_of (get_or table w 0) ps in
      λ j. held_words (head_at table w) (a j) (b j) s ++ rows-of l (λ y m. h y (inr m)) j

  abbrev ss : List Segment
  ss = segments table edges n

  held-rows : key_rows table ps (segment_index table n) ≡ held_rows ss ps
  unfolding held_rows
  held-rows = sym (ap (λ (t : List Segment). rows_of (map (held_of ps) t)) (by_id-index table edges n) ∙ rows-of (segment_index table n) (λ x h. h))

  held-edges : key_edges table edges (segment_index table n) ≡ held_edges ss ps
  unfolding held_edges
  held-edges = sym (ap (λ (t : List Segment). edges_of (map (held_of ps) t)) (by_id-index table edges n) ∙ edges-of table edges ps (segment_index table n))

  rows-size : length (key_rows table ps (segment_index table n)) ≡ n * held_width
  rows-size = rows-length table ps (segment_index table n) ∙ ap (λ (k : ℕ). k * held_width) (length-index table n)

  pub held-rows-size : length (held_rows ss ps) ≡ n * held_width
  held-rows-size = ap length (sym held-rows) ∙ rows-size

  pub held-edges-size : length (held_edges ss ps) ≡ length edges
  held-edges-size = ap length (sym held-edges) ∙ edges-size table edges n all

-- what both calls leave
module _ (w₀ w₁ table edges : List ℕ) (n : ℕ) (places : List ℕ) (m a b : ℕ) (ready : Ready w₀ table n places m a b) (ps : List Placement) (before : n * held_width + length edges ≤ a)
    (all : edges_from row_width table n 0 ≡ length edges) (e : w₁ ≡ put w₀ 0 (n * held_width) (key_rows table ps (segment_index table n))) where
  pub rows-kept : Indexed (part w₁ a (3 * n)) table n
  rows-kept =
      indexed-kept w₀ w₁ 0 (n * held_width) (key_rows table ps (segment_index table n)) e (rows-size table edges n all ps) a (omega arith)
      table n (omega (arith, ready.apart, ready.room)) ready.first

  pub image-written : (w : List ℕ) → w ≡ put w₁ (n * held_width) (length edges) (key_edges table edges (segment_index table n))
      → w ≡ put w₀ 0 (n * held_width + length edges) (held_rows (segments table edges n) ps ++ held_edges (segments table edges n) ps)
  image-written w f =
      let R : List ℕ = key_rows table ps (segment_index table n) in
      let E : List ℕ = key_edges table edges (segment_index table n) in
      let z : 0 + n * held_width ≡ n * held_width = zero-add (n * held_width) in
      f ∙ ap (λ (t : List ℕ). put t (n * held_width) (length edges) E) e
      ∙ ap (λ (k : ℕ). put (put w₀ 0 (n * held_width) R) k (length edges) E) (sym z)
      ∙ put-join w₀ 0 (n * held_width) R (rows-size table edges n all ps) (omega (arith, ready.apart, ready.room)) (length edges) E
      ∙ ap (put w₀ 0 (n * held_width + length edges)) (λ j. held-rows table edges n all ps j ++ held-edges table edges n all ps j)
