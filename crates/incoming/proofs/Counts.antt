-- There are as many segments, and as many placements, as there are rows: their ids are those of the rows. Assumes nothing.
use Prim.Native.Nat.{ℕ}
use mathlib.Core.Path.{◌≡◌, sym, ap, ◌∙◌}
use mathlib.Core.List.{List}
use lib.ListN.{length, length-map}
use Rattle.words.proofs.TableLaws.{length_ids}
use Rattle.rules.specs.Model.{Placement, id_of}
use Rattle.rules.specs.Tables.{row_width, place_width, segments, placements}
use Rattle.rules.proofs.TableIds.{segment-ids, placement-ids}

pub segments-count : (table edges : List ℕ) (n : ℕ) → length (segments table edges n) ≡ n
segments-count table edges n = sym (length-map (segments table edges n) id_of) ∙ ap length (segment-ids row_width table edges n) ∙ length_ids table row_width n

pub placements-count : (places : List ℕ) (m : ℕ) → length (placements places m) ≡ m
placements-count places m = sym (length-map (placements places m) (λ (p : Placement). p.id)) ∙ ap length (placement-ids places m) ∙ length_ids places place_width m
