-- The two halves of `judge_image` as one chain over the input tables: 24 to 27 refuse, or every edge leads to a row and 28 to 35 answer.
-- The image is lent to the second half as held tables, which say the same segments. Assumes nothing.
use Prim.Native.Nat.{ℕ, ◌+◌, ◌*◌, ◌≤◌}
use native.Mathlib.Omega.{arith}
use mathlib.Core.Path.{◌≡◌, sym, ap, ◌∙◌}
use mathlib.Core.List.{List}
use lib.ListN.{length, take, drop}
use lib.Seq.{take-take}
use Rattle.std.proofs.lemmas.List.{drop-take}
use Rattle.words.proofs.PartLaws.{part_length}
use Rattle.answers.specs.declared.Refusal.{Refusal}
use Rattle.answers.specs.Answer.{◌then◌, Judged, Accepted, Refused}
use Rattle.answers.proofs.Judging.{then_same, then-accepted}
use Rattle.rules.specs.Model.{Segment, by_id}
use Rattle.rules.specs.Tables.{held_width, segments, held_segments}
use Rattle.rules.specs.Edges.{links_from, edges_rule}
use Rattle.rules.specs.Order.{order_of, order_rule, order_words}
use Rattle.rules.specs.Tiling.{transitions_rule, active_of, coverage_rule}
use Rattle.tabled.specs.Image.{image_rows, image_edges}
use Rattle.tabled.proofs.ByRow.{segments-length}
use Rattle.held.specs.declared.Held.{Held}
use Rattle.held.specs.Front.{segments_of}
use Rattle.imaged.specs.Asked.{behind, Imaged, Graphed}
use Rattle.imaged.specs.Judging.{order_in, graph_in}
use Rattle.imaged.proofs.Closing.{closed}
use Rattle.imaged.proofs.Unsorted.{links-same, order_same, graph_same}

-- what is to be said of the segments
abbrev image_rule : ℕ → List Segment → Judged
image_rule depth ss = edges_rule ss then (order_rule depth ss then transitions_rule ss then coverage_rule (active_of ss))

-- the words of the image, lent as the rows and edges of held tables
module _ (w rows edges : List ℕ) (n e : ℕ) (g : Imaged w n e rows edges) (image held_rows held_edges : List ℕ) (is : image ≡ take (behind n e) w)
    (front : held_rows ≡ take (n * held_width) image) (back : held_edges ≡ drop (n * held_width) image) where
  rows-are : held_rows ≡ image_rows w n
  rows-are = front ∙ ap (take (n * held_width)) is ∙ take-take (n * held_width) (behind n e) w (omega arith)

  edges-are : held_edges ≡ image_edges w n e
  edges-are = back ∙ ap (drop (n * held_width)) is ∙ drop-take (n * held_width) e w

  pub same : held_segments held_rows held_edges n ≡ by_id (segments rows edges n)
  same = (λ i. held_segments (rows-are i) (edges-are i) n) ∙ g.same

  edges-many : length held_edges ≡ e
  edges-many = ap length edges-are ∙ part_length w (n * held_width) e g.image.room

  rows-many : length (held_segments held_rows held_edges n) ≡ n
  rows-many = segments-length held_rows held_edges n 0 0

  module _ (j : Judged) (said : j ≡ links_from (held_segments held_rows held_edges n) (held_segments held_rows held_edges n)) where
    linked : j ≡ edges_rule (segments rows edges n)
    linked = said ∙ links-same (held_segments held_rows held_edges n) (segments rows edges n) same

    pub image-refused : (depth : ℕ) (r : Refusal) → j ≡ Refused r → j ≡ image_rule depth (segments rows edges n)
    image-refused depth r told = then_same j (edges_rule (segments rows edges n)) _ r linked told

    module _ (told : j ≡ Accepted) where
      pub image-graphed : (held : Held) → held.rows.now ≡ held_rows → held.edges.now ≡ held_edges → held.count ≡ n
          → (scratch : List ℕ) → 7 * n + 1 + e + 3 * n + 3 * e ≤ length scratch → Graphed held scratch
      image-graphed held r q count scratch fits =
          let all : segments_of held ≡ held_segments held_rows held_edges n = λ i. held_segments (r i) (q i) (count i) in
          let many : length held.edges.now ≡ e = ap length q ∙ edges-many in
          record {
            fits = omega (arith, many, count);
            closed = closed held (ap (λ (S : List Segment). links_from S S) all ∙ (sym said ∙ told));
          }

      pub image-judged : (depth : ℕ) (v : Judged) → v ≡ graph_in depth n (held_segments held_rows held_edges n) → v ≡ image_rule depth (segments rows edges n)
      image-judged depth v rest =
          then-accepted j (edges_rule (segments rows edges n)) (order_rule depth (segments rows edges n) then transitions_rule (segments rows edges n) then coverage_rule (active_of (segments rows edges n))) v linked told
          (rest ∙ graph_same (held_segments held_rows held_edges n) (segments rows edges n) same depth n rows-many)

  pub image-order : (depth : ℕ) (v : Judged) (l : List ℕ) → (v ≡ Accepted → l ≡ order_words (order_in depth n (held_segments held_rows held_edges n))) → v ≡ Accepted
      → l ≡ order_words (order_of depth (segments rows edges n))
  image-order depth v l left accepted = left accepted ∙ ap order_words (order_same (held_segments held_rows held_edges n) (segments rows edges n) same depth n rows-many)
