-- One turn of each of the loops that lay words in the scratch:
--     offsets_room, offsets-turn, offsets-done     the offsets, from the counts in the rows
--     edges-turn, edges-done     the edges, each by its row
--     node-below, ids-turn, ids-done     the ids of the nodes taken
-- Assumes nothing.
use mathlib.Core.List.{List, map}
use mathlib.Core.Path.{ap, refl, sym, ◌∙◌, ◌≡◌}
use Prim.Native.Nat.{ℕ, ◌*◌, ◌+◌, ◌<◌, ◌≤◌}
use native.Mathlib.Omega.{arith}
use lib.ListN.{get_or, length, set, take}
use Rattle.order.specs.Graph.{Nodes}
use Rattle.held.specs.declared.Held.{Held}
use Rattle.ordered.specs.Numbers.{id_in, node_edges, node_named, offsets, offsets_below}
use Rattle.rules.specs.Tables.{held_width, parents_at, start_of}
use Rattle.words.specs.Part.{part, put}
use Rattle.ordered.proofs.LayLaws.{fill-after, fill-all, fill-turn, offsets-end, offsets-next}
use Rattle.rules.proofs.Places.{start-room}
use Rattle.words.proofs.PartLaws.{part_at, part_length}

module _ (held : Held) (w₀ : List ℕ) where
  -- ---- the offsets and the edges

  module _ (fits : 7 * held.count + 1 + length held.edges.now ≤ length w₀) where
    module _ (w : List ℕ) (i start : ℕ) (is : w ≡ put w₀ (5 * held.count) (2 * i) (offsets_below held.rows.now i)) (so : start ≡ start_of held_width held.rows.now i) where
      -- all edges fit
      pub offsets_room : i < held.count → start + parents_at held.rows.now (i * held_width) ≤ length held.edges.now
      offsets_room h = omega (arith, start-room held_width held.rows.now held.count i (length held.edges.now) held.tabled.counts h)

      pub offsets-turn : i < held.count → (v : ℕ) → v ≡ parents_at held.rows.now (i * held_width)
          → set (set w (5 * held.count + 2 * i) start) (5 * held.count + (2 * i + 1)) (start + v) ≡ put w₀ (5 * held.count) (2 * (i + 1)) (offsets_below held.rows.now (i + 1))
      offsets-turn h v read = offsets-next held.rows.now w₀ (5 * held.count) w i is start v (omega arith) so read

      pub offsets-done : i ≡ held.count → set w (5 * held.count + 2 * held.count) start ≡ put w₀ (5 * held.count) (2 * held.count + 1) (offsets held.rows.now held.count)
      offsets-done q = offsets-end held.rows.now w₀ (5 * held.count) w i is held.count start q (omega arith) so

    module _ (w : List ℕ) (k : ℕ) (is : w ≡ put w₀ (7 * held.count + 1) k (map (node_named held.rows.now held.count) (take k held.edges.now))) where
      pub edges-turn : k < length held.edges.now → (v : ℕ) → v ≡ node_named held.rows.now held.count (get_or held.edges.now k 0)
          → set w (7 * held.count + 1 + k) v ≡ put w₀ (7 * held.count + 1) (k + 1) (map (node_named held.rows.now held.count) (take (k + 1) held.edges.now))
      edges-turn h v q = fill-turn (node_named held.rows.now held.count) held.edges.now w₀ (7 * held.count + 1) w k v h (omega arith) is q

      pub edges-done : k ≡ length held.edges.now → w ≡ put w₀ (7 * held.count + 1) (length held.edges.now) (node_edges held.rows.now held.count held.edges.now)
      edges-done q = fill-all (node_named held.rows.now held.count) held.edges.now w₀ (7 * held.count + 1) w k (length held.edges.now) q refl is

-- ---- the ids

module _ (rows : List ℕ) (n : ℕ) (w₀ : List ℕ) (fits : 5 * n ≤ length w₀) (nodes : Nodes n (part w₀ (4 * n) n)) where
  abbrev taken : List ℕ
  taken = part w₀ (4 * n) n

  taken-size : length taken ≡ n
  taken-size = part_length w₀ (4 * n) n (omega arith)

  module _ (w : List ℕ) (k : ℕ) (is : w ≡ put w₀ (4 * n) k (map (id_in rows) (take k taken))) where
    module _ (h : k < n) (i : ℕ) (read : i ≡ get_or w (4 * n + k) 0) where
      node-is : i ≡ get_or taken k 0
      node-is =
          read ∙ fill-after (id_in rows) taken w₀ (4 * n) w k (omega (arith, taken-size)) (omega arith) is (4 * n + k) (omega arith)
          ∙ sym (part_at w₀ (4 * n) n k h)

      pub node-below : i < n
      node-below = omega (arith, node-is, nodes k (omega (arith, taken-size)))

      pub ids-turn : (v : ℕ) → v ≡ get_or rows (i * held_width) 0
          → set w (4 * n + k) v ≡ put w₀ (4 * n) (k + 1) (map (id_in rows) (take (k + 1) taken))
      ids-turn v said =
          fill-turn (id_in rows) taken w₀ (4 * n) w k v (omega (arith, taken-size)) (omega arith) is (said ∙ ap (id_in rows) node-is)

    pub ids-done : k ≡ n → w ≡ put w₀ (4 * n) n (map (id_in rows) taken)
    ids-done q = fill-all (id_in rows) taken w₀ (4 * n) w k n q taken-size is
