-- Parents and children of a segment as stretches of the edge table.
--     known-bad, known-at, known-nowhere     1, 50
--     span-at, span-nowhere                  where they stand, by the row that was found
--     edges-at, edges-nowhere                what stands there
-- Assumes nothing.
use Prim.Native.Nat.{ℕ, ◌+◌, ◌*◌, ◌<◌, ◌≤◌}
use native.Mathlib.Omega.{arith}
use mathlib.Core.Path.{◌≡◌, refl, sym, ap, ◌∙◌}
use mathlib.Core.Bool.{Bool, true, false, cond}
use mathlib.Core.Option.{Option, some}
use mathlib.Core.List.{List, []}
use lib.ListN.{length}
use Rattle.std.specs.Prelude.{Result, Ok, Err}
use Rattle.words.specs.Table.{ids, where_is, Found, At, Nothing}
use Rattle.words.proofs.TableLaws.{row-found}
use Rattle.answers.specs.declared.Refusal.{Refusal}
use Rattle.answers.specs.declared.Refusal.TheVariants.{BadTable, UnknownSegment}
use Rattle.answers.specs.Answer.{Judged, Accepted, Refused}
use Rattle.answers.proofs.Judging.{refused-not}
use Rattle.types.specs.declared.records.Side.{Side}
use Rattle.types.specs.declared.records.Side.TheVariants.{Parents, Children}
use Rattle.rules.specs.Model.{Segment, lookup}
use Rattle.rules.specs.Tables.{held_width, held_segments, start_of, stretch, parents_at, children_at}
use Rattle.rules.specs.Shape.{bad_held}
use Rattle.rules.specs.Ordering.{known_rule, where_good, parents_in, children_in, parent_stretch, child_stretch}
use Rattle.tabled.specs.Image.{segment_in, segment_found}
use Rattle.tabled.proofs.ByRow.{lookup-found}
use Rattle.held.specs.declared.HeldTables.{HeldTables}
use Rattle.held.specs.declared.Held.{Held}
use Rattle.held.specs.declared.Span.{Span}
use Rattle.held.specs.Front.{IsFront, IsBad}
use Rattle.held.specs.Spans.{span_of}
use Rattle.held.proofs.Fronts.{same_ids, same_span, same_size, edges_fit}
use Rattle.ordering.specs.Rows.{known, known_row, stretch_of, span_in, span_after, span_rule}
use Rattle.ordering.proofs.Found.{rule-known, rule-unknown}

module _ (rows edges : List ℕ) (h g : ℕ) where
  module _ (id : ℕ) where
    found-is : (r : ℕ) → known_row rows edges h g id ≡ At r → (bad_held rows edges h g ≡ false) × (where_is (ids rows held_width h) id ≡ At r)
    unfolding known_row
    found-is r e = go (bad_held rows edges h g) refl e
      where
        go : (b : Bool) → bad_held rows edges h g ≡ b → cond b Nothing (where_is (ids rows held_width h) id) ≡ At r → (b ≡ false) × (where_is (ids rows held_width h) id ≡ At r)
        go true s k = let z : ◌≡◌ {A = ℕ} 0 1 = cc in absurd (omega arith)
        go false s k = (refl, k)

    refused : bad_held rows edges h g ≡ true → Refused BadTable ≡ known_rule rows edges h g id
    unfolding known_rule
    refused s = rw s refl

    module _ (pick : Option Segment → List ℕ) where
      pub stretch-found : (f : Found) (r : ℕ) (l : List ℕ) → f ≡ known_row rows edges h g id → f ≡ At r → l ≡ pick (some (segment_in rows edges r))
          → l ≡ where_good (known_rule rows edges h g id) (pick (lookup id (held_segments rows edges h)))
      stretch-found f r l is e el =
          let k = found-is r (sym is ∙ e) in
          let a : Accepted ≡ known_rule rows edges h g id = rule-known rows edges h id (where_is (ids rows held_width h) id) refl g (bad_held rows edges h g) r refl k.0 k.1 in
          let s : lookup id (held_segments rows edges h) ≡ some (segment_in rows edges r) = lookup-found rows edges id h ∙ ap (segment_found rows edges) k.1 in
          rw (← a, s) el

      pub stretch-nothing : (f : Found) → f ≡ known_row rows edges h g id → f ≡ Nothing → [] ≡ where_good (known_rule rows edges h g id) (pick (lookup id (held_segments rows edges h)))
      unfolding known_row
      stretch-nothing f is e = go (bad_held rows edges h g) refl (sym is ∙ e)
        where
          go : (b : Bool) → bad_held rows edges h g ≡ b → cond b Nothing (where_is (ids rows held_width h) id) ≡ Nothing → [] ≡ where_good (known_rule rows edges h g id) (pick (lookup id (held_segments rows edges h)))
          go true s k = rw (← refused s) refl
          go false s k = rw (← rule-unknown rows edges h id (where_is (ids rows held_width h) id) refl g (bad_held rows edges h g) (Refused (UnknownSegment id)) refl s k refl) refl

-- ---- of tables that are lent

-- the span of an answer
abbrev pub told : Result Span Refusal → Span
told (Ok s) = s
told (Err r) = record { start = 0; length = 0 }

module _ (t : HeldTables) (id : ℕ) where
  pub known-bad : (r : Refusal) → IsBad t r → Refused r ≡ known t id
  unfolding known_rule
  known-bad r b = rw (b.bad, b.refusal) refl

  pub span-bad : (side : Side) (r : Refusal) → IsBad t r → Err r ≡ span_rule side t id
  span-bad side r b = rw (← known-bad r b) refl

  module _ (held : Held) (f : IsFront t held) (g : Found) (is : g ≡ where_is (ids held.rows.now held_width held.count) id) where
    place : g ≡ where_is (ids t.rows.now held_width t.count) id
    place = is ∙ ap (λ (l : List ℕ). where_is l id) (same_ids t held f)

    row_is : known_row t.rows.now t.edges.now t.count t.edge_count id ≡ g
    unfolding known_row
    row_is = rw f.good (sym place)

    pub known-at : (r : ℕ) → g ≡ At r → Accepted ≡ known t id
    known-at r e = rule-known t.rows.now t.edges.now t.count id g place t.edge_count (bad_held t.rows.now t.edges.now t.count t.edge_count) r refl f.good e

    pub known-nowhere : g ≡ Nothing → Refused (UnknownSegment id) ≡ known t id
    known-nowhere e =
        rule-unknown t.rows.now t.edges.now t.count id g place t.edge_count (bad_held t.rows.now t.edges.now t.count t.edge_count)
        (Refused (UnknownSegment id)) refl f.good e refl

    pub row-below : (r : ℕ) → g ≡ At r → r < held.count
    row-below r e = (row-found held.rows.now held_width held.count id r (sym is ∙ e)).0

    pub span-at : (side : Side) (r : ℕ) (v : Span) → g ≡ At r → v ≡ span_of side held.rows.now r → Ok v ≡ span_rule side t id
    span-at side r v e said =
        let below : r < t.count = omega (arith, f.count, row-below r e) in
        rw (← known-at r e, row_is, e, said, same_span t held f side r below) refl

    pub span-within : (v : Span) → v.start + v.length ≤ length held.edges.now → (v.start + v.length ≤ t.edge_count) × (t.edge_count ≤ length t.edges.now)
    span-within v within = (omega (arith, within, same_size t held f), edges_fit t.rows.now t.edges.now t.count t.edge_count f.good)

    pub span-nowhere : (side : Side) → g ≡ Nothing → Err (UnknownSegment id) ≡ span_rule side t id
    span-nowhere side e = rw (← known-nowhere e) refl

  -- where 1 or 50 refuses, no row was found
  pub row-refused : (r : Refusal) → known t id ≡ Refused r → known_row t.rows.now t.edges.now t.count t.edge_count id ≡ Nothing
  row-refused r told = go (known_row t.rows.now t.edges.now t.count t.edge_count id) refl
    where
      go : (f : Found) → known_row t.rows.now t.edges.now t.count t.edge_count id ≡ f → f ≡ Nothing
      go Nothing is = refl
      go (At k) is =
          let found = found-is t.rows.now t.edges.now t.count t.edge_count id k is in
          refused-not (known t id) r told
          (sym (rule-known t.rows.now t.edges.now t.count id (where_is (ids t.rows.now held_width t.count) id) refl t.edge_count
          (bad_held t.rows.now t.edges.now t.count t.edge_count) k refl found.0 found.1))

  -- what stands there, by the row and by 1 or 50
  stands : (side : Side) (g : Found) → g ≡ known_row t.rows.now t.edges.now t.count t.edge_count id
      → stretch t.edges.now (span_in side t.rows.now g).start ((span_in side t.rows.now g).start + (span_in side t.rows.now g).length) ≡ stretch_of side t id
  unfolding parent_stretch child_stretch
  stands Parents (At r) is = stretch-found t.rows.now t.edges.now t.count t.edge_count id parents_in (At r) r _ is refl refl
  stands Children (At r) is = stretch-found t.rows.now t.edges.now t.count t.edge_count id children_in (At r) r _ is refl refl
  stands Parents Nothing is = stretch-nothing t.rows.now t.edges.now t.count t.edge_count id parents_in Nothing is refl
  stands Children Nothing is = stretch-nothing t.rows.now t.edges.now t.count t.edge_count id children_in Nothing is refl

  pub edges-at : (side : Side) (s : Span) → Ok s ≡ span_rule side t id → stretch t.edges.now s.start (s.start + s.length) ≡ stretch_of side t id
  edges-at side s e = go (known t id) refl e
    where
      go : (j : Judged) → j ≡ known t id → Ok s ≡ span_after j (span_in side t.rows.now (known_row t.rows.now t.edges.now t.count t.edge_count id))
          → stretch t.edges.now s.start (s.start + s.length) ≡ stretch_of side t id
      go Accepted k same = rw (ap told same) (stands side (known_row t.rows.now t.edges.now t.count t.edge_count id) refl)
      go (Refused r) k same = let z : ◌≡◌ {A = ℕ} 0 1 = cc in absurd (omega arith)

  pub edges-nowhere : (side : Side) (r : Refusal) → Err r ≡ span_rule side t id → [] ≡ stretch_of side t id
  unfolding parent_stretch child_stretch
  edges-nowhere side r e = go (known t id) refl e side
    where
      go : (j : Judged) → known t id ≡ j → Err r ≡ span_after j (span_in side t.rows.now (known_row t.rows.now t.edges.now t.count t.edge_count id))
          → (k : Side) → [] ≡ stretch_of k t id
      go Accepted is same k = let z : ◌≡◌ {A = ℕ} 0 1 = cc in absurd (omega arith)
      go (Refused r) is same Parents = rw is refl
      go (Refused r) is same Children = rw is refl
