-- The loop over the edges: those of the first p keys, and of one key more (from-room, edge-room, edges-kept, count_next, edges-next,
-- edges-end). All of them are as many as the edge table has, since a sum does not change by sorting (count_index).
-- Assumes nothing.
use mathlib.Core.Path.{◌≡◌, refl, sym, ap, ◌∙◌}
use mathlib.Core.List.{List, [], ◌∷◌, ◌++◌}
use Prim.Native.Nat.{ℕ, zero, suc, ◌+◌, ◌*◌, ◌<◌, ◌≤◌}
use native.Mathlib.Omega.{arith}
use native.Mathlib.Numerals.{add-one}
use lib.ListN.{length, get_or, take, length-append}
use lib.Seq.{take_all}
use Rattle.lists.specs.Sort.{Row, le3}
use Rattle.lists.proofs.Sums.{sum-sorted}
use Rattle.words.specs.Part.{part, put}
use Rattle.words.proofs.PartLaws.{put_as}
use Rattle.words.proofs.PutMore.{put-join}
use Rattle.sorts.specs.Heap.{at}
use Rattle.rules.specs.Tables.{row_width, parents_at, children_at, stretch, edges_from}
use Rattle.rules.proofs.Places.{start-room, length-stretch}
use Rattle.indexes.specs.Index.{segment_keys, segment_index}
use Rattle.indexes.proofs.Keys.{index_at, length-index}
use Rattle.image.specs.Written.{row_edges, key_edges, Indexed}
use Rattle.image.proofs.InTurn.{turn_more}
use Rattle.image.proofs.KeyWords.{key_row, key-start, indexed-kept}

-- how many edges the row that begins at word w has, and the rows of some keys
abbrev pub edge_count : List ℕ → ℕ → ℕ
edge_count table w = parents_at table w + children_at table w

abbrev pub count_of : List ℕ → List Row → ℕ
count_of table [] = 0
count_of table (x ∷ l) = edge_count table (x.1 * row_width) + count_of table l

module _ (table : List ℕ) where
  count-keys : (n i place : ℕ) → count_of table (segment_keys table n i place) ≡ edges_from row_width table n i
  count-keys zero i place = refl
  count-keys (suc n) i place = ap (λ (k : ℕ). edge_count table (i * row_width) + k) (count-keys n (i + 1) (place + parents_at table (i * row_width) + children_at table (i * row_width)))

  count_index : (n : ℕ) → count_of table (segment_index table n) ≡ edges_from row_width table n 0
  unfolding segment_index
  count_index n = sum-sorted le3 (count_of table) (λ (x : Row). edge_count table (x.1 * row_width)) (λ x l. refl) (segment_keys table n 0 0) ∙ count-keys n 0 0

  -- one key more
  count-suc : (l : List Row) (p : ℕ) → p < length l → count_of table (take (suc p) l) ≡ count_of table (take p l) + edge_count table ((at l p).1 * row_width)
  count-suc [] p h = absurd (omega arith)
  count-suc (x ∷ l) zero h = omega arith
  count-suc (x ∷ l) (suc p) h = omega (arith, count-suc l p (omega arith))

  count-take : (k : ℕ) (l : List Row) → count_of table (take k l) ≤ count_of table l
  count-take zero l = omega arith
  count-take (suc k) [] = omega arith
  count-take (suc k) (x ∷ l) = omega (arith, count-take k l)

-- a stretch, as it was copied
pub edges_copied : (w w' edges : List ℕ) (place from p c : ℕ) → from + p + c ≤ length edges → w' ≡ put w place (length (stretch edges from (from + p + c))) (stretch edges from (from + p + c))
    → w' ≡ put w place (p + c) (stretch edges from (from + p + c))
edges_copied w w' edges place from p c h e =
    let q : from + p + c ≡ from + (p + c) = omega arith in
    let l : length (stretch edges from (from + p + c)) ≡ p + c = ap (λ (k : ℕ). length (stretch edges from k)) q ∙ length-stretch edges from (p + c) (omega arith) in
    e ∙ put_as w place (length (stretch edges from (from + p + c))) (p + c) (stretch edges from (from + p + c)) (stretch edges from (from + p + c)) l refl

module _ (table edges : List ℕ) (n : ℕ) (all : edges_from row_width table n 0 ≡ length edges) where
  abbrev S : List Row
  S = segment_index table n

  -- the edges of the key at place p
  abbrev keyed : ℕ → List ℕ
  keyed p = row_edges table edges ((at S p).1 * row_width) (at S p).2

  abbrev count : ℕ → ℕ
  count p = edge_count table ((at S p).1 * row_width)

  key_room : (p : ℕ) → p < n → (at S p).2 + parents_at table ((at S p).1 * row_width) + children_at table ((at S p).1 * row_width) ≤ length edges
  key_room p below =
      let k = index_at table n p below in
      omega (arith, start-room row_width table n (at S p).1 (length edges) all k.0.to, k.1.at)

  keyed-length : (p : ℕ) → p < n → length (keyed p) ≡ count p
  keyed-length p below =
      let W : ℕ = (at S p).1 * row_width in
      let e : (at S p).2 + parents_at table W + children_at table W ≡ (at S p).2 + count p = omega arith in
      ap (λ (k : ℕ). length (stretch edges (at S p).2 k)) e ∙ length-stretch edges (at S p).2 (count p) (omega (arith, key_room p below))

  edges_more : (p : ℕ) → p < n → key_edges table edges (take (suc p) S) ≡ key_edges table edges (take p S) ++ keyed p
  edges_more p below = turn_more (λ (x : Row). row_edges table edges (x.1 * row_width) x.2) S p (omega (arith, length-index table n))

  -- the edges of the first p keys are as many as their rows say
  edges-length : (p : ℕ) → p ≤ n → length (key_edges table edges (take p S)) ≡ count_of table (take p S)
  edges-length zero h = refl
  edges-length (suc p) h =
      let below : p < n = omega arith in
      ap length (edges_more p below) ∙ length-append (key_edges table edges (take p S)) (keyed p)
      ∙ omega (arith, edges-length p (omega arith), keyed-length p below, count-suc table S p (omega (arith, length-index table n)))

  whole : (p : ℕ) → n ≤ p → take p S ≡ S
  whole p h = take_all p S (omega (arith, length-index table n))

  pub edges-size : length (key_edges table edges S) ≡ length edges
  edges-size = ap (λ (l : List Row). length (key_edges table edges l)) (sym (whole n (omega arith))) ∙ edges-length n (omega arith) ∙ ap (count_of table) (whole n (omega arith)) ∙ count_index table n ∙ all

  -- at key p, whose words stand in w from a + p * 3 on: `place` is where its edges go, behind those of the keys before it
  module _ (w : List ℕ) (a : ℕ) (x : Indexed (part w a (3 * n)) table n) (p : ℕ) (below : p < n) (base place : ℕ) (here : place ≡ base + count_of table (take p S)) where
    abbrev W : ℕ
    W = get_or w (a + p * 3 + 1) 0 * row_width

    abbrev from : ℕ
    from = get_or w (a + p * 3 + 2) 0

    w-is : W ≡ (at S p).1 * row_width
    w-is = ap (λ (r : ℕ). r * row_width) (key_row w table n a x p below)

    pub from-room : from + parents_at table W + children_at table W ≤ length edges
    from-room = rw (w-is, key-start w table n a x p below) (key_room p below)

    one_more : count_of table (take (p + 1) S) ≡ count_of table (take p S) + edge_count table W
    one_more = rw (add-one p, w-is) (count-suc table S p (omega (arith, length-index table n)))

    -- the place behind, as `copy_edges` answers it
    pub count_next : (behind : ℕ) → behind ≡ place + parents_at table W + children_at table W → behind ≡ base + count_of table (take (p + 1) S)
    count_next behind b = omega (arith, one_more)

    here-is : row_edges table edges W from ≡ keyed p
    here-is = rw (w-is, key-start w table n a x p below) refl

    row-size : length (row_edges table edges W from) ≡ edge_count table W
    row-size = ap length here-is ∙ keyed-length p below ∙ ap (edge_count table) (sym w-is)

    module _ (w₀ : List ℕ) (before : base + length edges ≤ a) (room : a + 3 * n ≤ length w₀) (same : length w ≡ length w₀) where
      place-room : place + parents_at table W + children_at table W ≤ a
      place-room = omega (arith, one_more, count-take table (p + 1) S, count_index table n)

      pub edge-room : place + parents_at table W + children_at table W ≤ length w
      edge-room = omega (arith, place-room)

      module _ (w' : List ℕ) (f : w' ≡ put w place (edge_count table W) (row_edges table edges W from)) where
        pub edges-kept : Indexed (part w' a (3 * n)) table n
        edges-kept = indexed-kept w w' place (edge_count table W) (row_edges table edges W from) f row-size a (omega (arith, place-room)) table n (omega arith) x

        pub edges-next : w ≡ put w₀ base (count_of table (take p S)) (key_edges table edges (take p S))
            → w' ≡ put w₀ base (count_of table (take (p + 1) S)) (key_edges table edges (take (p + 1) S))
        edges-next e =
            let E : List ℕ = key_edges table edges (take p S) in
            let R : List ℕ = row_edges table edges W from in
            let k : ℕ = edge_count table W in
            let c : ℕ = count_of table (take p S) in
            let more : key_edges table edges (take (p + 1) S) ≡ E ++ R = rw (add-one p, here-is) (edges_more p below) in
            f ∙ ap (λ (t : List ℕ). put t place k R) e ∙ ap (λ (j : ℕ). put (put w₀ base c E) j k R) here
            ∙ put-join w₀ base c E (edges-length p (omega arith)) (omega (arith, place-room)) k R
            ∙ put_as w₀ base (c + k) (count_of table (take (p + 1) S)) (E ++ R) (key_edges table edges (take (p + 1) S)) (sym one_more) (sym more)

  pub edges-end : (w₀ w : List ℕ) (base p : ℕ) → n ≤ p → w ≡ put w₀ base (count_of table (take p S)) (key_edges table edges (take p S))
      → w ≡ put w₀ base (length edges) (key_edges table edges S)
  edges-end w₀ w base p h e =
      e ∙ put_as w₀ base (count_of table (take p S)) (length edges) (key_edges table edges (take p S)) (key_edges table edges S)
      (ap (count_of table) (whole p h) ∙ count_index table n ∙ all) (ap (key_edges table edges) (whole p h))
