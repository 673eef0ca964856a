-- Where the words before `at` are what they were, so is all that is read of an image there: its rows and edges, its segments, any part of it.
-- Assumes nothing.
use Prim.Native.Nat.{ℕ, ◌+◌, ◌*◌, ◌≤◌, ◌<◌}
use native.Mathlib.Nat.{zero-add}
use native.Mathlib.Omega.{arith}
use mathlib.Core.Path.{◌≡◌, refl, sym, ap, ◌∙◌}
use mathlib.Core.List.{List}
use lib.ListN.{length, get_or, take}
use lib.Seq.{get_or-take}
use Rattle.words.specs.Part.{part}
use Rattle.words.proofs.PartLaws.{part_in}
use Rattle.rules.specs.Tables.{held_width, held_segments}
use Rattle.tabled.specs.Image.{image_rows, image_edges, Image, image_segments}

module _ (w w₀ : List ℕ) (at : ℕ) (kept : take at w ≡ take at w₀) where
  pub word_kept : (j : ℕ) → j < at → get_or w j 0 ≡ get_or w₀ j 0
  word_kept j h = sym (get_or-take at w j 0 h) ∙ ap (λ (t : List ℕ). get_or t j 0) kept ∙ get_or-take at w₀ j 0 h

  pub part-kept : (b m : ℕ) → b + m ≤ at → part w b m ≡ part w₀ b m
  part-kept b m h = sym (front w) ∙ ap (λ (t : List ℕ). part t b m) kept ∙ front w₀
    where
      front : (l : List ℕ) → part (take at l) b m ≡ part l b m
      front l = part_in l 0 at b m h ∙ ap (λ (j : ℕ). part l j m) (zero-add b)

  module _ (n e : ℕ) (room : n * held_width + e ≤ at) where
    pub rows-kept : image_rows w n ≡ image_rows w₀ n
    rows-kept = part-kept 0 (n * held_width) (omega arith)

    pub edges-kept : image_edges w n e ≡ image_edges w₀ n e
    edges-kept = part-kept (n * held_width) e room

    pub segments-kept : image_segments w n e ≡ image_segments w₀ n e
    segments-kept = λ j. held_segments (rows-kept j) (edges-kept j) n

    pub image-kept : length w ≡ length w₀ → Image w₀ n e → Image w n e
    image-kept size g = record { room = omega (arith, g.room); tabled = rw (rows-kept, edges-kept) g.tabled }
