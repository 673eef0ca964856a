-- The graph of a table: offsets and edges in node numbers.
--     length-below, offsets-even, offsets-odd     what the offsets are, by induction on the rows
--     graph-of     they are a graph, where each edge word has a row
--     order-of     the rule book's order of the table's segments is the order of the graph, each node by its id
-- Assumes nothing.
use mathlib.Core.List.{List, [], map, ◌++◌, ◌∷◌}
use mathlib.Core.Logic.{inl, inr, ◌⊎◌}
use mathlib.Core.Path.{ap, refl, sym, ◌∙◌, ◌≡◌}
use Prim.Native.Nat.{suc, zero, zero-le, ℕ, ◌*◌, ◌+◌, ◌-◌, ◌/◌, ◌<◌, ◌≤◌}
use native.Mathlib.Decide.{dec_lt, ℕ_discrete}
use native.Mathlib.Omega.{arith}
use lib.ListN.{get_or-append, get_or-eq_default, get_or, length, length-append, length-map}
use lib.Seq.{ext_get_or, get_or-append-add, get_or-append_seam, length-slice}
use Rattle.order.specs.Graph.{Graph, children, judge, parents}
use Rattle.ordered.specs.Left.{named}
use Rattle.ordered.specs.Numbers.{node_edges, node_named, offsets, offsets_at, offsets_below, row_of}
use Rattle.rules.specs.Model.{Segment, ids_of}
use Rattle.rules.specs.Order.{node_of, order_from}
use Rattle.rules.specs.Tables.{children_at, held_segments, held_width, parents_at, start_of}
use Rattle.tabled.specs.Image.{Tabled, segment_in}
use Rattle.words.specs.Table.{ids, where_is, At}
use Rattle.ordered.proofs.Alike.{judge-alike}
use Rattle.ordered.proofs.MapLaws.{map_at, map-slice, slice-stretch}
use Rattle.ordered.proofs.NodeLaws.{bare}
use Rattle.rules.proofs.Places.{length-stretch, start-room}
use Rattle.tabled.proofs.ByRow.{ids-segments, segments-at, segments-length}
use Rattle.words.proofs.TableLaws.{at-is, length_ids}

-- ---- the offsets

pub length-below : (rows : List ℕ) (n : ℕ) → length (offsets_below rows n) ≡ 2 * n
unfolding offsets_below
length-below rows zero = refl
length-below rows (suc n) = omega (arith, length-below rows n, length-append (offsets_below rows n) (offsets_at rows n))

length-offsets : (rows : List ℕ) (n : ℕ) → length (offsets rows n) ≡ 2 * n + 1
length-offsets rows n = omega (arith, length-below rows n, length-append (offsets_below rows n) (start_of held_width rows n ∷ []))

module _ (rows : List ℕ) where
  -- the offsets of row i: k is 0 or 1
  below_at : (n i k : ℕ) → i < n → k < 2 → get_or (offsets_below rows n) (2 * i + k) 0 ≡ get_or (offsets_at rows i) k 0
  unfolding offsets_below
  below_at zero i k h q = absurd (omega arith)
  below_at (suc n) i k h q = go (below_at n i k) (ℕ_discrete i n)
    where
      go : (i < n → k < 2 → get_or (offsets_below rows n) (2 * i + k) 0 ≡ get_or (offsets_at rows i) k 0) → Dec (i ≡ n) → get_or (offsets_below rows n ++ offsets_at rows n) (2 * i + k) 0 ≡ get_or (offsets_at rows i) k 0
      go ih (yes e) =
          let z : 2 * i + k ≡ length (offsets_below rows n) + k = omega (arith, length-below rows n) in
          rw (z, get_or-append-add (offsets_below rows n) (offsets_at rows n) k 0) (ap (λ (j : ℕ). get_or (offsets_at rows j) k 0) (sym e))
      go ih (no p) = get_or-append (offsets_below rows n) (offsets_at rows n) 0 (2 * i + k) (omega (arith, length-below rows n)) ∙ ih (omega arith) q

  early : (n i k : ℕ) → i < n → k < 2 → get_or (offsets rows n) (2 * i + k) 0 ≡ get_or (offsets_at rows i) k 0
  early n i k h q = get_or-append (offsets_below rows n) (start_of held_width rows n ∷ []) 0 (2 * i + k) (omega (arith, length-below rows n)) ∙ below_at n i k h q

  pub offsets-even : (n i : ℕ) → i ≤ n → get_or (offsets rows n) (2 * i) 0 ≡ start_of held_width rows i
  offsets-even n i h = go (ℕ_discrete i n)
    where
      go : Dec (i ≡ n) → get_or (offsets rows n) (2 * i) 0 ≡ start_of held_width rows i
      go (yes e) =
          let z : 2 * i ≡ length (offsets_below rows n) = omega (arith, length-below rows n) in
          rw (z, get_or-append_seam (offsets_below rows n) (start_of held_width rows n) [] 0) (ap (start_of held_width rows) (sym e))
      go (no p) = let z : 2 * i ≡ 2 * i + 0 = omega arith in ap (λ (j : ℕ). get_or (offsets rows n) j 0) z ∙ early n i 0 (omega arith) (omega arith)

  pub offsets-odd : (n i : ℕ) → i < n → get_or (offsets rows n) (2 * i + 1) 0 ≡ start_of held_width rows i + parents_at rows (i * held_width)
  offsets-odd n i h = early n i 1 h (omega arith)

halves : (k : ℕ) → (k ≡ 2 * (k / 2)) ⊎ (k ≡ 2 * (k / 2) + 1)
halves k = go (ℕ_discrete k (2 * (k / 2)))
  where
    go : Dec (k ≡ 2 * (k / 2)) → (k ≡ 2 * (k / 2)) ⊎ (k ≡ 2 * (k / 2) + 1)
    go (yes e) = inl e
    go (no e) = inr (omega arith)

-- ---- the graph, where each edge word is the id of a row

module _ (rows edges : List ℕ) (n : ℕ) (t : Tabled rows edges n)
    (closed : (k : ℕ) → k < length edges → (r : ℕ) × (where_is (ids rows held_width n) (get_or edges k 0) ≡ At r)) where
  abbrev off : List ℕ
  off = offsets rows n

  abbrev nodes : List ℕ
  nodes = node_edges rows n edges

  nodes-size : length nodes ≡ length edges
  nodes-size = length-map edges (node_named rows n)

  -- the node of an edge word, and its id
  node_at : (k : ℕ) → k < length edges → (get_or nodes k 0 < n) × (get_or (ids rows held_width n) (get_or nodes k 0) 0 ≡ get_or edges k 0)
  node_at k h =
      let c = closed k h in
      let e : get_or nodes k 0 ≡ c.0 = map_at (node_named rows n) edges k h ∙ ap row_of c.1 in
      let a = at-is (ids rows held_width n) (get_or edges k 0) c.0 c.1 in
      (omega (arith, a.0, length_ids rows held_width n), rw e a.1)

  room : (i : ℕ) → i < n → start_of held_width rows i + parents_at rows (i * held_width) + children_at rows (i * held_width) ≤ length edges
  room i h = start-room held_width rows n i (length edges) t.counts h

  start-le : (i : ℕ) → i ≤ n → start_of held_width rows i ≤ length edges
  start-le zero h = zero-le
  start-le (suc i) h = room i h

  even : (i : ℕ) → i ≤ n → get_or off (2 * i) 0 ≡ start_of held_width rows i
  even i h = offsets-even rows n i h

  odd : (i : ℕ) → i < n → get_or off (2 * i + 1) 0 ≡ start_of held_width rows i + parents_at rows (i * held_width)
  odd i h = offsets-odd rows n i h

  -- where the children of row i end
  last : (i : ℕ) → i < n → get_or off (2 * i + 2) 0 ≡ start_of held_width rows i + parents_at rows (i * held_width) + children_at rows (i * held_width)
  last i h = let e : 2 * i + 2 ≡ 2 * suc i = omega arith in ap (λ (j : ℕ). get_or off j 0) e ∙ even (suc i) h

  up_at : (k i : ℕ) → k < 2 * n → (k ≡ 2 * i) ⊎ (k ≡ 2 * i + 1) → get_or off k 0 ≤ get_or off (k + 1) 0
  up_at k i h (inl e) = rw e (omega (arith, even i (omega arith), odd i (omega arith)))
  up_at k i h (inr e) =
      let z : k + 1 ≡ 2 * i + 2 = omega arith in
      rw (z, e) (omega (arith, odd i (omega arith), last i (omega arith)))

  inside-at : (k i : ℕ) → Dec (k < 2 * n + 1) → (k ≡ 2 * i) ⊎ (k ≡ 2 * i + 1) → get_or off k 0 ≤ length nodes
  inside-at k i (yes h) (inl e) = rw e (omega (arith, even i (omega arith), start-le i (omega arith), nodes-size))
  inside-at k i (yes h) (inr e) = rw e (omega (arith, odd i (omega arith), room i (omega arith), nodes-size))
  inside-at k i (no h) e = rw (get_or-eq_default off 0 {n = k} (omega (arith, length-offsets rows n))) zero-le

  pub graph-of : Graph n off nodes
  graph-of =
      record {
        size = length-offsets rows n;
        up = λ k h. up_at k (k / 2) h (halves k);
        inside = λ k. inside-at k (k / 2) (dec_lt k (2 * n + 1)) (halves k);
        nodes = λ k h. (node_at k (omega (arith, nodes-size))).0;
      }

  -- ---- what the graph says of a row

  abbrev S : List Segment
  S = held_segments rows edges n

  abbrev name : ℕ → ℕ
  name k = get_or (ids_of S) k 0

  elders : (i : ℕ) → i < n → length (parents off nodes i) ≡ length (get_or S i bare).parents
  elders i h =
      let s : get_or S i bare ≡ segment_in rows edges i = segments-at rows edges bare n i h in
      let a : length (parents off nodes i) ≡ get_or off (2 * i + 1) 0 - get_or off (2 * i) 0 = length-slice (get_or off (2 * i) 0) (get_or off (2 * i + 1) 0) nodes (graph-of.inside (2 * i + 1)) in
      let b : length (segment_in rows edges i).parents ≡ parents_at rows (i * held_width) = length-stretch edges (start_of held_width rows i) (parents_at rows (i * held_width)) (omega (arith, room i h)) in
      rw s (omega (arith, even i (omega arith), odd i h))

  -- each edge word is the id of its node
  named-edges : map name nodes ≡ edges
  named-edges =
      ext_get_or 0 (map name nodes) edges (length-map nodes name ∙ nodes-size)
      (λ k h. let q : k < length edges = omega (arith, length-map nodes name, nodes-size) in
      map_at name nodes k (omega (arith, nodes-size)) ∙ ap (λ (l : List ℕ). get_or l (get_or nodes k 0) 0) (ids-segments rows edges n) ∙ (node_at k q).1)

  kin : (i : ℕ) → i < n → (get_or S i bare).children ≡ map name (children off nodes i)
  kin i h =
      let s : get_or S i bare ≡ segment_in rows edges i = segments-at rows edges bare n i h in
      let o = odd i h in
      let l = last i h in
      rw (s, map-slice name (get_or off (2 * i + 1) 0) (get_or off (2 * i + 2) 0) nodes, named-edges, o, l)
      (sym (slice-stretch edges (start_of held_width rows i + parents_at rows (i * held_width)) (start_of held_width rows i + parents_at rows (i * held_width) + children_at rows (i * held_width)) (omega arith)))

  pub order-of : (lim : ℕ) → order_from lim n [] (map node_of S) ≡ named name (judge n off nodes lim)
  order-of lim = judge-alike n S off nodes (segments-length rows edges n 0 0) elders lim graph-of (rw (ids-segments rows edges n) t.up) kin
