-- Good tables at the front of longer areas say what the areas say: their segments, ids and spans are the same.
-- Assumes nothing.
use Rattle.std.proofs.Common.{ℕ, zero, suc, ◌+◌, ◌*◌, ◌<◌, ◌≤◌, ◌≡◌, refl, sym, ap, ◌∙◌, false, List, length, get_or, take, arith}
use lib.Seq.{get_or-take, length-take-le}
use Rattle.types.specs.declared.records.Side.{Side}
use Rattle.types.specs.declared.records.Side.TheVariants.{Parents, Children}
use Rattle.words.specs.Table.{ids, Ascends}
use Rattle.rules.specs.Model.{ids_of}
use Rattle.rules.specs.Tables.{held_width, held_segments, start_of, parents_at, children_at, edges_from}
use Rattle.rules.specs.Shape.{bad_held}
use Rattle.rules.proofs.Places.{start-room}
use Rattle.tabled.specs.Image.{Tabled}
use Rattle.tabled.proofs.ByRow.{ids-segments}
use Rattle.tabled.proofs.Cut.{cut-segments, cut-tabled}
use Rattle.shape.proofs.Good.{held-fit, held-ascend, held-edges-fit, held-counts}
use Rattle.held.specs.declared.Span.{Span}
use Rattle.held.specs.declared.HeldTables.{HeldTables}
use Rattle.held.specs.declared.Held.{Held}
use Rattle.held.specs.Front.{segments_of, IsFront}
use Rattle.held.specs.Spans.{span_of}

module _ (rows edges : List ℕ) (h g : ℕ) (good : bad_held rows edges h g ≡ false) where
  pub rows_fit : h * held_width ≤ length rows
  rows_fit = held-fit rows edges h g (bad_held rows edges h g) refl good

  pub edges_fit : g ≤ length edges
  edges_fit = held-edges-fit rows edges h g (bad_held rows edges h g) refl good

  pub counts_fit : edges_from held_width rows h 0 ≡ g
  counts_fit = held-counts rows edges h g (bad_held rows edges h g) refl good

  pub front_tabled : Tabled (take (h * held_width) rows) (take g edges) h
  front_tabled = cut-tabled rows edges h g rows_fit counts_fit edges_fit (held-ascend rows edges h g (bad_held rows edges h g) refl good)

  pub front_segments : held_segments (take (h * held_width) rows) (take g edges) h ≡ held_segments rows edges h
  front_segments = cut-segments rows edges h g rows_fit counts_fit

-- the edges of row r are in the table
pub edges_in_table : (rows edges : List ℕ) (h : ℕ) → Tabled rows edges h → (r : ℕ) → r < h
    → start_of held_width rows r + parents_at rows (r * held_width) + children_at rows (r * held_width) ≤ length edges
edges_in_table rows edges h t r below = start-room held_width rows h r (length edges) t.counts below

module _ (rows : List ℕ) (h : ℕ) where
  word : (i k : ℕ) → i < h → k < held_width → get_or (take (h * held_width) rows) (i * held_width + k) 0 ≡ get_or rows (i * held_width + k) 0
  word i k l m = get_or-take (h * held_width) rows (i * held_width + k) 0 (omega arith)

  start_cut : (i : ℕ) → i ≤ h → start_of held_width (take (h * held_width) rows) i ≡ start_of held_width rows i
  start_cut zero l = refl
  start_cut (suc i) l = rw (start_cut i (omega arith), word i 9 (omega arith) (omega arith), word i 10 (omega arith) (omega arith)) refl

  pub span_cut : (side : Side) (i : ℕ) → i < h → span_of side (take (h * held_width) rows) i ≡ span_of side rows i
  span_cut Parents i l = rw (start_cut i (omega arith), word i 9 l (omega arith)) refl
  span_cut Children i l = rw (start_cut i (omega arith), word i 9 l (omega arith), word i 10 l (omega arith)) refl

module _ (t : HeldTables) (held : Held) (f : IsFront t held) where
  pub same_segments : segments_of held ≡ held_segments t.rows.now t.edges.now t.count
  same_segments = rw (f.rows, f.edges, f.count) (front_segments t.rows.now t.edges.now t.count t.edge_count f.good)

  pub same_ids : ids held.rows.now held_width held.count ≡ ids t.rows.now held_width t.count
  same_ids = sym (ids-segments held.rows.now held.edges.now held.count) ∙ ap ids_of same_segments ∙ ids-segments t.rows.now t.edges.now t.count

  pub same_span : (side : Side) (r : ℕ) → r < t.count → span_of side held.rows.now r ≡ span_of side t.rows.now r
  same_span side r below = rw f.rows (span_cut t.rows.now t.count side r below)

  pub same_size : length held.edges.now ≡ t.edge_count
  same_size = rw f.edges (length-take-le t.edge_count t.edges.now (edges_fit t.rows.now t.edges.now t.count t.edge_count f.good))
