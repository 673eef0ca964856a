-- Bytes put into a lent area, as far as there is room.
-- Assumes nothing.
use Rattle.std.specs.Prelude.{ℕ, ◌+◌, min, ◌≡◌, List, length}
use Rattle.std.proofs.lemmas.List.Edits.{sets}

-- the area with the bytes stored one after another from place `at` on; what falls past its end is lost
abbrev pub written : List ℕ → ℕ → List ℕ → List ℕ
written area at bytes = sets area at bytes

-- what a writing call owes: the area afterwards, and the place after the bytes, which is the area's end where they were cut
pub record Wrote (area : List ℕ) (at : ℕ) (bytes : List ℕ) (after : List ℕ) (next : ℕ) : Type 0 where
  pub holds : after ≡ written area at bytes
  pub stands : next ≡ min (at + length bytes) (length area)
