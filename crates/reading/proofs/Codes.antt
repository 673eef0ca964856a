-- A code by its tests: the sign, then the size.
-- Assumes nothing.
use Rattle.std.specs.Prelude.{Option, None}
use mathlib.Core.Path.{◌≡◌, refl, ap, ◌∙◌}
use mathlib.Core.List.{List, [], ◌∷◌}
use Prim.Native.Nat.{ℕ, ◌-◌}
use native.Mathlib.Omega.{arith}
use borrow.Author.Tests.{eq-eqb, ne_eqb}
use lib.ListN.{length, get_or, take, drop}
use lib.Seq.{take_all}
use Rattle.reading.specs.Numbers.{number_of, plain_code, minus_code, code_of}

pub no_code : (s : List ℕ) → length s ≡ 0 → None ≡ code_of s
unfolding code_of
no_code [] e = refl
no_code (b ∷ s) e = absurd (omega arith)

pub with-minus : (s : List ℕ) (r : Option ℕ) → (length s ≡ 0 → ⊥) → get_or s 0 0 ≡ 45 → r ≡ minus_code (number_of (take (length s - 1) (drop 1 s))) → r ≡ code_of s
unfolding code_of
with-minus [] r l h e = absurd (l refl)
with-minus (b ∷ s) r l h e =
    rw (eq-eqb b 45 h) (e ∙ ap (λ (t : List ℕ). minus_code (number_of t)) (take_all (length (b ∷ s) - 1) s (omega arith)))

pub with_none : (s : List ℕ) (r : Option ℕ) → (length s ≡ 0 → ⊥) → (get_or s 0 0 ≡ 45 → ⊥) → r ≡ plain_code (number_of s) → r ≡ code_of s
unfolding code_of
with_none [] r l h e = absurd (l refl)
with_none (b ∷ s) r l h e = rw (ne_eqb b 45 h, e)
