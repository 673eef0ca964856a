-- What a table of held rows keeps of its segments:
--     segments-of-layout     its segments are those of the layout that it stands for
--     held-segments          so the held tables of segments are these segments, ascending
--     count-edges            the counts in its rows add up to its edges
--     area-segments, area-counts     the same of areas that begin with these tables
-- By `decode-encode`, and by the counts read back row after row. Assumes nothing.
use Prim.Native.Nat.{ℕ, zero, suc, ◌+◌, ◌*◌}
use native.Mathlib.Omega.{arith}
use mathlib.Core.Path.{◌≡◌, refl, sym, ap, ◌∙◌}
use mathlib.Core.List.{List, [], ◌∷◌, ◌++◌, map, append_assoc, append-nil}
use lib.ListN.{length, length-append, length-map}
use Rattle.rules.specs.Model.{Segment, Placement, Held, layout, by_id, held_of}
use Rattle.rules.specs.Tables.{held_width, parents_at, children_at, held_words, rows_of, edges_of, edges_from, layout_from, layout_of, segment_at, segments_from, held_segments, held_rows, held_edges}
use Rattle.rules.proofs.Decode.{held-length, row-parents, row-children, decode-encode}
use Rattle.rules.proofs.Ascended.{length-by_id}

abbrev pub segment : Held → Segment
segment x = x.segment

segments-from : (rows edges : List ℕ) (n i at : ℕ) → segments_from held_width rows edges n i at ≡ map segment (layout_from rows edges n i at)
segments-from rows edges zero i at = refl
segments-from rows edges (suc n) i at = ap (λ (t : List Segment). segment_at rows edges (i * held_width) at ∷ t) (segments-from rows edges n (i + 1) (at + parents_at rows (i * held_width) + children_at rows (i * held_width)))

pub segments-of-layout : (rows edges : List ℕ) (n : ℕ) → held_segments rows edges n ≡ map segment (layout_of rows edges n)
segments-of-layout rows edges n = segments-from rows edges n 0 0

joined : (ps : List Placement) (l : List Segment) → map segment (map (held_of ps) l) ≡ l
joined ps [] = refl
joined ps (s ∷ l) = ap (λ (t : List Segment). s ∷ t) (joined ps l)

layout-length : (ss : List Segment) (ps : List Placement) → length (layout ss ps) ≡ length ss
layout-length ss ps = length-map (by_id ss) (held_of ps) ∙ length-by_id ss

count-from : (l : List Held) (R u pre : List ℕ) (i : ℕ) → R ≡ pre ++ (rows_of l ++ u) → length pre ≡ i * held_width → edges_from held_width R (length l) i ≡ length (edges_of l)
count-from [] R u pre i f a = refl
count-from (x ∷ l) R u pre i f a =
    let h = x.segment.head in
    let p : List ℕ = x.segment.parents in
    let c : List ℕ = x.segment.children in
    let W : List ℕ = held_words h (length p) (length c) x.site in
    let r : R ≡ pre ++ (W ++ (rows_of l ++ u)) = f ∙ ap (λ (t : List ℕ). pre ++ t) (append_assoc W (rows_of l) u) in
    let hp : parents_at R (i * held_width) ≡ length p = ap (λ (t : List ℕ). parents_at t (i * held_width)) r ∙ row-parents h (length p) (length c) x.site pre (rows_of l ++ u) (i * held_width) a in
    let hc : children_at R (i * held_width) ≡ length c = ap (λ (t : List ℕ). children_at t (i * held_width)) r ∙ row-children h (length p) (length c) x.site pre (rows_of l ++ u) (i * held_width) a in
    let width : length (pre ++ W) ≡ (i + 1) * held_width = omega (arith, length-append pre W, held-length h (length p) (length c) x.site) in
    let rest : edges_from held_width R (length l) (i + 1) ≡ length (edges_of l) = count-from l R u (pre ++ W) (i + 1) (r ∙ sym (append_assoc pre W (rows_of l ++ u))) width in
    omega (arith, length-append (p ++ c) (edges_of l), length-append p c)

module _ (ss : List Segment) (ps : List Placement) (n : ℕ) (l : length ss ≡ n) where
  size : n ≡ length (layout ss ps)
  size = sym (layout-length ss ps ∙ l)

  -- areas that begin with the held tables, whatever words follow
  pub area-segments : (u v : List ℕ) → held_segments (held_rows ss ps ++ u) (held_edges ss ps ++ v) n ≡ by_id ss
  unfolding held_rows held_edges
  area-segments u v =
      let back : layout_of (held_rows ss ps ++ u) (held_edges ss ps ++ v) n ≡ layout ss ps = rw size (decode-encode (layout ss ps) u v) in
      segments-of-layout (held_rows ss ps ++ u) (held_edges ss ps ++ v) n ∙ ap (map segment) back ∙ joined ps (by_id ss)

  pub area-counts : (u : List ℕ) → edges_from held_width (held_rows ss ps ++ u) n 0 ≡ length (held_edges ss ps)
  unfolding held_rows held_edges
  area-counts u = rw size (count-from (layout ss ps) (held_rows ss ps ++ u) u [] 0 refl refl)

  -- and the tables alone
  pub held-segments : held_segments (held_rows ss ps) (held_edges ss ps) n ≡ by_id ss
  held-segments = sym (λ k. held_segments (append-nil (held_rows ss ps) k) (append-nil (held_edges ss ps) k) n) ∙ area-segments [] []

  pub count-edges : edges_from held_width (held_rows ss ps) n 0 ≡ length (held_edges ss ps)
  count-edges = sym (ap (λ (t : List ℕ). edges_from held_width t n 0) (append-nil (held_rows ss ps))) ∙ area-counts []
