-- What the order of held tables rests on:
--     laid, laid_told     the graph laid in the scratch, and what is said of its order
--     told-whole, told-depth, told-cyclic     what the code's answer says of the graph's order
--     judged-whole, judged-depth, judged-cyclic     the same of the rule book's order, with the order list that is left
-- Assumes nothing.
use mathlib.Core.List.{List, [], map}
use mathlib.Core.Path.{ap, refl, sym, ◌∙◌, ◌≡◌}
use Prim.Native.Nat.{ℕ, ◌*◌, ◌+◌, ◌<◌, ◌≤◌}
use native.Mathlib.Omega.{arith}
use lib.ListN.{get_or, length, length-map}
use Rattle.answers.specs.Answer.{Accepted, Refused}
use Rattle.order.specs.Area.{Laid, Told, edges_in, off_in}
use Rattle.order.specs.Graph.{Graph, Nodes, judge, start}
use Rattle.order.specs.Area.{Order}
use Rattle.order.specs.Area.{Cycle, Depth, Whole}
use Rattle.held.specs.declared.Held.{Held}
use Rattle.held.specs.Front.{segments_of}
use Rattle.ordered.specs.Left.{Closed, OrderLeft, named}
use Rattle.ordered.specs.Numbers.{id_in, node_edges, node_named, offsets}
use Rattle.rules.specs.Model.{ids_of}
use Rattle.rules.specs.Order.{Ordered, cyclic, in_order, node_of, order_from, ordered_rule, too_deep}
use Rattle.rules.specs.Tables.{held_width}
use Rattle.words.specs.Part.{part, put}
use Rattle.order.proofs.TakenLaws.{run-nodes}
use Rattle.ordered.proofs.GraphLaws.{graph-of, order-of}
use Rattle.ordered.proofs.MapLaws.{map_same}
use Rattle.tabled.proofs.ByRow.{ids-segments}
use Rattle.words.proofs.PartLaws.{length-put, part-before, part_length, part-put}
use Rattle.words.proofs.TableLaws.{ids_at}
use Rattle.answers.specs.declared.Refusal.TheVariants as R

-- ---- what the code's answer says

module _ (r : Order) (ws : List ℕ) where
  pub told-whole : (j : Ordered) → Told j r ws → r ≡ Whole → j ≡ in_order ws
  told-whole (in_order xs) t e = ap in_order (sym t.list)
  told-whole (too_deep x) t e = absurd (let z : ◌≡◌ {A = ℕ} 0 1 = cc in omega arith)
  told-whole cyclic t e = absurd (let z : ◌≡◌ {A = ℕ} 0 1 = cc in omega arith)

  pub told-depth : (j : Ordered) (d : ℕ) → Told j r ws → r ≡ Depth d → j ≡ too_deep d
  told-depth (in_order xs) d t e = absurd (let y = t.answer in let z : ◌≡◌ {A = ℕ} 0 1 = cc in omega arith)
  told-depth (too_deep x) d t e = cc
  told-depth cyclic d t e = absurd (let z : ◌≡◌ {A = ℕ} 0 1 = cc in omega arith)

  pub told-cyclic : (j : Ordered) → Told j r ws → r ≡ Cycle → j ≡ cyclic
  told-cyclic (in_order xs) t e = absurd (let y = t.answer in let z : ◌≡◌ {A = ℕ} 0 1 = cc in omega arith)
  told-cyclic (too_deep x) t e = absurd (let z : ◌≡◌ {A = ℕ} 0 1 = cc in omega arith)
  told-cyclic cyclic t e = refl

-- ---- the graph laid in the scratch

module _ (held : Held) (closed : Closed held) where
  abbrev n : ℕ
  n = held.count

  abbrev e : ℕ
  e = length held.edges.now

  abbrev off : List ℕ
  off = offsets held.rows.now held.count

  abbrev nodes : List ℕ
  nodes = node_edges held.rows.now held.count held.edges.now

  laid-graph : Graph n off nodes
  laid-graph = graph-of held.rows.now held.edges.now n held.tabled closed

  module _ (w w₁ w₂ : List ℕ) (fits : 7 * held.count + 1 + length held.edges.now ≤ length w)
      (is : w₁ ≡ put w (5 * held.count) (2 * held.count + 1) (offsets held.rows.now held.count))
      (is₂ : w₂ ≡ put w₁ (7 * held.count + 1) (length held.edges.now) (node_edges held.rows.now held.count held.edges.now)) where
    off-size : length off ≡ 2 * n + 1
    off-size = laid-graph.size

    nodes-size : length nodes ≡ e
    nodes-size = length-map held.edges.now (node_named held.rows.now n)

    size₁ : length w₁ ≡ length w
    size₁ = rw is (length-put w (5 * n) (2 * n + 1) off off-size (omega arith))

    fits₁ : 7 * n + 1 + e ≤ length w₁
    fits₁ = omega (arith, size₁)

    laid-off : off_in n w₂ ≡ off
    laid-off =
        let a : part w₂ (5 * n) (2 * n + 1) ≡ part w₁ (5 * n) (2 * n + 1) = rw is₂ (part-before w₁ (7 * n + 1) e nodes nodes-size fits₁ (5 * n) (2 * n + 1) (omega arith)) in
        a ∙ rw is (part-put w (5 * n) (2 * n + 1) off off-size (omega arith))

    laid-nodes : edges_in n e w₂ ≡ nodes
    laid-nodes = rw is₂ (part-put w₁ (7 * n + 1) e nodes nodes-size fits₁)

    size₂ : length w₂ ≡ length w₁
    size₂ = rw is₂ (length-put w₁ (7 * n + 1) e nodes nodes-size fits₁)

    pub laid : Laid held.count (length held.edges.now) w₂
    laid = record { room = omega (arith, fits₁, size₂); graph = rw (laid-off, laid-nodes) laid-graph }

    pub laid_told : (lim : ℕ) (r : Order) (ws : List ℕ) → Told (judge held.count (off_in held.count w₂) (edges_in held.count (length held.edges.now) w₂) lim) r ws
        → Told (judge held.count (offsets held.rows.now held.count) (node_edges held.rows.now held.count held.edges.now) lim) r ws
    laid_told lim r ws t = rw (laid-off, laid-nodes) at t

  -- ---- the answer, by id

  module _ (lim : ℕ) where
    abbrev name : ℕ → ℕ
    name k = get_or (ids_of (segments_of held)) k 0

    by-id : order_from lim n [] (map node_of (segments_of held)) ≡ named name (judge n off nodes lim)
    by-id = order-of held.rows.now held.edges.now n held.tabled closed lim

    pub judged-depth : (d : ℕ) (ws : List ℕ) → judge held.count (offsets held.rows.now held.count) (node_edges held.rows.now held.count held.edges.now) lim ≡ too_deep d
        → (Refused (R.Depth d lim) ≡ ordered_rule lim (order_from lim held.count [] (map node_of (segments_of held)))) × OrderLeft (order_from lim held.count [] (map node_of (segments_of held))) ws
    unfolding ordered_rule
    judged-depth d ws j = rw (by-id, j) (refl, tt)

    pub judged-cyclic : (ws : List ℕ) → judge held.count (offsets held.rows.now held.count) (node_edges held.rows.now held.count held.edges.now) lim ≡ cyclic
        → (Refused R.Cycle ≡ ordered_rule lim (order_from lim held.count [] (map node_of (segments_of held)))) × OrderLeft (order_from lim held.count [] (map node_of (segments_of held))) ws
    unfolding ordered_rule
    judged-cyclic ws j = rw (by-id, j) (refl, tt)

    -- all were taken: w₁ holds the nodes, and their ids are laid over them
    module _ (w₁ : List ℕ) (room : 5 * held.count ≤ length w₁)
        (j : judge held.count (offsets held.rows.now held.count) (node_edges held.rows.now held.count held.edges.now) lim ≡ in_order (part w₁ (4 * held.count) held.count)) where
      pub taken-nodes : Nodes held.count (part w₁ (4 * held.count) held.count)
      taken-nodes = run-nodes n off nodes lim n [] (start n off nodes) (part w₁ (4 * n) n) (λ k h. absurd (omega arith)) j

      id_same : (k : ℕ) → k < n → id_in held.rows.now k ≡ name k
      id_same k h = sym (ids_at held.rows.now held_width n k h) ∙ ap (λ (l : List ℕ). get_or l k 0) (sym (ids-segments held.rows.now held.edges.now n))

      module _ (w₂ : List ℕ) (is : w₂ ≡ put w₁ (4 * held.count) held.count (map (id_in held.rows.now) (part w₁ (4 * held.count) held.count))) where
        ids-size : length (map (id_in held.rows.now) (part w₁ (4 * n) n)) ≡ n
        ids-size = length-map (part w₁ (4 * n) n) (id_in held.rows.now) ∙ part_length w₁ (4 * n) n (omega arith)

        pub judged-whole : (Accepted ≡ ordered_rule lim (order_from lim held.count [] (map node_of (segments_of held))))
            × OrderLeft (order_from lim held.count [] (map node_of (segments_of held))) (part w₂ (4 * held.count) held.count)
        unfolding ordered_rule
        judged-whole =
            let a : part w₂ (4 * n) n ≡ map (id_in held.rows.now) (part w₁ (4 * n) n) = rw is (part-put w₁ (4 * n) n (map (id_in held.rows.now) (part w₁ (4 * n) n)) ids-size (omega arith)) in
            rw (by-id, j) (refl, a ∙ map_same n (id_in held.rows.now) name (part w₁ (4 * n) n) taken-nodes id_same)
