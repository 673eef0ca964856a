-- The image that was written is the layout's, and what is copied from the work area is the layout's held words.
-- Assumes nothing.
use Prim.Native.Nat.{ℕ, ◌+◌, ◌*◌, ◌≤◌}
use native.Mathlib.Omega.{arith}
use mathlib.Core.Path.{◌≡◌}
use mathlib.Core.List.{List, ◌++◌}
use lib.ListN.{length}
use Rattle.words.specs.Part.{put}
use Rattle.rules.specs.Model.{Placement}
use Rattle.rules.specs.Tables.{held_rows, held_edges}
use Rattle.image.proofs.Laid.{image-rows, image-edges, image-segments, image-laid}
use Rattle.answers.specs.declared.Refusal.{Refusal}
use Rattle.layout.specs.Laid.{row_count, edge_count, image_len, Indexed, ImageOf}
use Rattle.rules.specs.Judge.{Tables, Areas, segments_in, placements_in, areas_after}
use Rattle.answers.specs.Answer.{Judged, Accepted, Refused}

pub imaged : (w₀ w : List ℕ) (t : Tables) → Indexed w₀ t
    → w ≡ put w₀ 0 (image_len (row_count t) (edge_count t)) (held_rows (segments_in t) (placements_in t) ++ held_edges (segments_in t) (placements_in t))
    → ImageOf w t
imaged w₀ w t i laid =
    let n : ℕ = row_count t in
    let ps : List Placement = placements_in t in
    let room : image_len n (edge_count t) ≤ length w₀ = omega (arith, i.ready.room) in
    record {
      image = image-laid w₀ w t.rows t.edges n ps i.counts room laid i.no-twins;
      segments = image-segments w₀ w t.rows t.edges n ps i.counts room laid;
      rows = image-rows w₀ w t.rows t.edges n ps i.counts room laid;
      edges = image-edges w₀ w t.rows t.edges n ps i.counts room laid;
    }

-- ---- where a layout was refused nothing changes; where it was accepted its words come in

pub refused-keeps : (j : Judged) (r : Refusal) (new old : Areas) → j ≡ Refused r → old ≡ areas_after j new old
refused-keeps j r new old told = rw told

pub accepted-takes : (j : Judged) (v new old : Areas) → j ≡ Accepted → v ≡ new → v ≡ areas_after j new old
accepted-takes j v new old told e = rw (told, e)
