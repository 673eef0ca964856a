-- The fields counted by the spaces: each begins one more. A field of one byte, by its length.
-- Assumes nothing.
use mathlib.Core.Path.{◌≡◌, refl}
use mathlib.Core.List.{List, [], ◌∷◌}
use Prim.Native.Nat.{ℕ, ◌+◌, ◌-◌, ◌<◌}
use native.Mathlib.Omega.{arith}
use lib.ListN.{length, get_or}
use Rattle.reading.specs.Fields.{push, split, letter_of}
use Rattle.reading.proofs.Parts.{split-first}
use Rattle.std.specs.List.{count_by}
use Rattle.std.proofs.lemmas.List.Recursion.{is_count_by}
use mathlib.Core.Bool.{Bool, cond, true, false}
use lib.Dec.{eqb}

push-length : (sep b : ℕ) (s : List ℕ) → length (push b (split sep s)) ≡ length (split sep s)
push-length sep b s = rw (split-first sep s) refl

-- there is a part at least
some-part : (sep : ℕ) (s : List ℕ) → 0 < length (split sep s)
some-part sep s = rw (split-first sep s) (omega arith)

one-more : (sep b : ℕ) (s : List ℕ) → length (split sep (b ∷ s)) - 1 ≡ cond (eqb b sep) (1 + (length (split sep s) - 1)) (length (split sep s) - 1)
unfolding split
one-more sep b s = go (eqb b sep)
  where
    go : (t : Bool) → length (cond t ([] ∷ split sep s) (push b (split sep s))) - 1 ≡ cond t (1 + (length (split sep s) - 1)) (length (split sep s) - 1)
    go true = omega (arith, some-part sep s)
    go false = rw (push-length sep b s) refl

pub counted : (sep : ℕ) (s : List ℕ) → 1 + count_by (λ b. eqb b sep) s ≡ length (split sep s)
unfolding split
counted sep s =
    let none : length (split sep []) - 1 ≡ 0 = refl in
    let e = is_count_by (λ (l : List ℕ). length (split sep l) - 1) (λ (b : ℕ). eqb b sep) none (one-more sep) s in
    omega (arith, e, some-part sep s)

-- ---- a field of one byte

pub one_byte : (s : List ℕ) → length s ≡ 1 → get_or s 0 0 ≡ letter_of s
unfolding letter_of
one_byte [] l = absurd (omega arith)
one_byte (b ∷ []) l = refl
one_byte (b ∷ c ∷ s) l = absurd (omega arith)

pub not-one-byte : (s : List ℕ) → (length s ≡ 1 → ⊥) → 0 ≡ letter_of s
unfolding letter_of
not-one-byte [] l = refl
not-one-byte (b ∷ []) l = absurd (l refl)
not-one-byte (b ∷ c ∷ s) l = refl
