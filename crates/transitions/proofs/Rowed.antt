-- Held tables by row: the segment with an id is the row that a search finds, and the edges of a row lie in the edge table, as many as its
-- words say.
-- Assumes nothing.
use Prim.Native.Nat.{ℕ, ◌+◌, ◌*◌, ◌≤◌, ◌<◌}
use native.Mathlib.Numerals.{add-one}
use native.Mathlib.Omega.{arith}
use mathlib.Core.Path.{◌≡◌, refl, sym, ap, ◌∙◌}
use mathlib.Core.Option.{none, some}
use mathlib.Core.List.{[], ◌∷◌}
use lib.ListN.{length, drop, drop_of_length-le}
use lib.Seq.{drop-cons}
use Rattle.words.specs.Table.{ids, where_is, At, Nothing}
use Rattle.words.proofs.TableLaws.{row-found}
use Rattle.rules.specs.Model.{Segment, lookup}
use Rattle.rules.specs.Tables.{held_width, parents_at, children_at, start_of}
use Rattle.rules.proofs.Places.{start-room, length-stretch}
use Rattle.tabled.specs.Image.{segment_found}
use Rattle.tabled.proofs.ByRow.{lookup-found, segments-length, segments-at}
use Rattle.held.specs.declared.Held.{Held}
use Rattle.held.specs.Front.{segments_of}
use Rattle.transitions.specs.Edged.{segment_of}

module _ (held : Held) where
  -- the row that a search came to
  module _ (id : ℕ) where
    pub found_none : Nothing ≡ where_is (ids held.rows.now held_width held.count) id → lookup id (segments_of held) ≡ none
    found_none said = lookup-found held.rows.now held.edges.now id held.count ∙ ap (segment_found held.rows.now held.edges.now) (sym said)

    module _ (i : ℕ) (said : At i ≡ where_is (ids held.rows.now held_width held.count) id) where
      pub found-row : i < held.count
      found-row = (row-found held.rows.now held_width held.count id i (sym said)).0

      pub found_some : lookup id (segments_of held) ≡ some (segment_of held i)
      found_some = lookup-found held.rows.now held.edges.now id held.count ∙ ap (segment_found held.rows.now held.edges.now) (sym said)

  module _ (i : ℕ) (below : i < held.count) where
    pub edges_room : start_of held_width held.rows.now i + parents_at held.rows.now (i * held_width) + children_at held.rows.now (i * held_width) ≤ length held.edges.now
    edges_room = start-room held_width held.rows.now held.count i (length held.edges.now) held.tabled.counts below

    pub parents-length : length (segment_of held i).parents ≡ parents_at held.rows.now (i * held_width)
    parents-length = length-stretch held.edges.now (start_of held_width held.rows.now i) (parents_at held.rows.now (i * held_width)) (omega (arith, edges_room))

    -- the segments from row i on
    pub segments-drop : drop i (segments_of held) ≡ segment_of held i ∷ drop (i + 1) (segments_of held)
    segments-drop =
        let s : Segment = segment_of held i in
        let k : i < length (segments_of held) = rw (segments-length held.rows.now held.edges.now held.count 0 0) below in
        rw (add-one i, drop-cons (segments_of held) i s k, segments-at held.rows.now held.edges.now s held.count i below) refl

  pub segments-done : (i : ℕ) → held.count ≤ i → drop i (segments_of held) ≡ []
  segments-done i h = drop_of_length-le (segments_of held) {i = i} (rw (segments-length held.rows.now held.edges.now held.count 0 0) h)
