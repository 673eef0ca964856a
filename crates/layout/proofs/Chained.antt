-- 3 to 23 and then 24 to 35 are the rule book's chain; and what stands in the work area where the chain accepts.
-- Assumes nothing.
use Prim.Native.Nat.{ℕ, ◌+◌, ◌*◌, ◌≤◌, ◌<◌}
use native.Mathlib.Omega.{arith}
use mathlib.Core.Path.{◌≡◌, refl, sym, ◌∙◌}
use mathlib.Core.List.{List}
use lib.ListN.{length, take}
use Rattle.words.specs.Part.{part}
use Rattle.answers.specs.declared.Refusal.{Refusal}
use Rattle.answers.specs.Answer.{Judged, Accepted, Refused}
use Rattle.types.specs.declared.limits.DagLimits.{DagLimits}
use Rattle.rules.specs.Model.{Segment, Placement}
use Rattle.rules.specs.Tables.{held_width, segments}
use Rattle.rules.specs.Order.{order_of, order_words}
use Rattle.rules.specs.Layout.{graph_rule, layout_rule}
use Rattle.rules.specs.Judge.{Tables, segments_in}
use Rattle.tabled.proofs.Kept.{rows-kept, edges-kept, segments-kept, image-kept}
use Rattle.incoming.specs.Incoming.{incoming_rule, Given}
use Rattle.incoming.proofs.Chains.{layout_is, incoming-empty}
use Rattle.incoming.proofs.Counts.{segments-count}
use Rattle.layout.specs.Laid.{row_count, place_count, edge_count, image_len, HasWork, Fit, ImageOf, LaidOut, order_at, graph_chain}
use Rattle.answers.specs.declared.Refusal.TheVariants.{NoActiveSegments}

-- what was judged behind the image left it as it was
pub laid_out : (w₁ w₂ : List ℕ) (t : Tables) (depth : ℕ) → ImageOf w₁ t
    → take (image_len (row_count t) (edge_count t)) w₂ ≡ take (image_len (row_count t) (edge_count t)) w₁ → length w₂ ≡ length w₁
    → HasWork t (length w₁) → 0 < row_count t
    → part w₂ (order_at (row_count t) (edge_count t)) (row_count t) ≡ order_words (order_of depth (segments_in t)) → LaidOut w₂ t depth
laid_out w₁ w₂ t depth im kept same fits some order =
    let n : ℕ = row_count t in
    let e : ℕ = edge_count t in
    let room : n * held_width + e ≤ image_len n e = omega arith in
    record {
      imaged =
          record {
            image = image-kept w₂ w₁ (image_len n e) kept n e room same im.image;
            segments = segments-kept w₂ w₁ (image_len n e) kept n e room ∙ im.segments;
            rows = rows-kept w₂ w₁ (image_len n e) kept n e room ∙ im.rows;
            edges = edges-kept w₂ w₁ (image_len n e) kept n e room ∙ im.edges;
          };
      order = order;
      order-in = omega arith;
    }

-- the room that 01 grants is enough for the first stage
pub given : (w : List ℕ) (t : Tables) → Fit t (length w) → Given w t.rows (row_count t) t.edges t.places (place_count t)
given w t f =
    record { segments = omega arith; links = f.counts; placements = omega arith; room = omega (arith, f.room) }

module _ (epoch size : ℕ) (limits : DagLimits) (ss : List Segment) (ps : List Placement) (x : Judged) (said : x ≡ incoming_rule epoch size limits ss ps) where
  pub refused-early : (r : Refusal) → x ≡ Refused r → x ≡ layout_rule epoch size limits ss ps
  refused-early r told =
      let e : incoming_rule epoch size limits ss ps ≡ Refused r = sym said ∙ told in
      told ∙ sym (layout_is epoch size limits ss ps ∙ rw e refl)

  pub refused-empty : (v : Judged) → x ≡ Accepted → length ss ≡ 0 → v ≡ Refused NoActiveSegments → v ≡ layout_rule epoch size limits ss ps
  refused-empty v told none e =
      let a : incoming_rule epoch size limits ss ps ≡ Accepted = sym said ∙ told in
      e ∙ sym (incoming-empty epoch size limits ss ps none ∙ rw a refl)

  pub judged-late : (v : Judged) → x ≡ Accepted → v ≡ graph_chain limits.depth ss → v ≡ layout_rule epoch size limits ss ps
  unfolding graph_chain graph_rule
  judged-late v told e =
      let a : incoming_rule epoch size limits ss ps ≡ Accepted = sym said ∙ told in
      e ∙ sym (layout_is epoch size limits ss ps ∙ rw a refl)

-- no rows, no segments
pub no-segments : (rows edges : List ℕ) (n : ℕ) → n ≡ 0 → length (segments rows edges n) ≡ 0
no-segments rows edges n e = segments-count rows edges n ∙ e
