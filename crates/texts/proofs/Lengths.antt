-- How many bytes a number and a comma list take at most.
-- Assumes nothing.
use Prim.Native.Nat.{ℕ, zero, suc, ◌+◌, ◌*◌, ◌/◌, ◌%◌, ◌-◌, ◌≤◌, ◌<◌}
use mathlib.Core.Logic.{⊎_elim}
use mathlib.Core.List.{List, [], ◌∷◌, map}
use native.Mathlib.Omega.{arith}
use native.Mathlib.Nat.{suc-mul, mul-le-mul_right}
use lib.ListN.{length, take, length-append, length-take}
use borrow.Author.Tests.{lt-ltb, le-ltb, lt-leb, le-leb}
use Rattle.lists.proofs.Cases.{lt-or-le}
use Rattle.texts.specs.Decimal.{glyph, digits_before, decimal, signed}
use Rattle.texts.specs.CommaList.{commas_after, commas, listed, pair_texts, pairs_listed}

-- ---- numbers

digits-length : (k n : ℕ) (ds : List ℕ) → length (digits_before k n ds) ≤ k + length ds
digits-length zero n ds = omega arith
digits-length (suc k) n ds =
    ⊎_elim
    (λ (s : n < 10). rw (lt-ltb n 10 s) (omega arith))
    (λ (s : 10 ≤ n). rw (le-ltb n 10 s) (omega (arith, digits-length k (n / 10) (glyph (n % 10) ∷ ds))))
    (lt-or-le n 10)

pub decimal-length : (n : ℕ) → length (decimal n) ≤ 20
unfolding decimal
decimal-length n = digits-length 20 n []

pub signed-length : (n : ℕ) → length (signed n) ≤ 21
unfolding signed
signed-length n =
    ⊎_elim
    (λ (s : n < 2147483648). rw (lt-leb 2147483648 n s) (omega (arith, decimal-length n)))
    (λ (s : 2147483648 ≤ n).
    ⊎_elim
    (λ (t : n < 4294967296). rw (le-leb 2147483648 n s, lt-ltb n 4294967296 t) (omega (arith, decimal-length (4294967296 - n))))
    (λ (t : 4294967296 ≤ n). rw (le-leb 2147483648 n s, le-ltb n 4294967296 t) (omega (arith, decimal-length n)))
    (lt-or-le n 4294967296))
    (lt-or-le n 2147483648)

-- ---- lists of texts, none of which is longer than m

abbrev pub Within : ℕ → List (List ℕ) → Type 0
Within m [] = Unit
Within m (t ∷ ts) = (length t ≤ m) × Within m ts

pub within-take : (m n : ℕ) (ts : List (List ℕ)) → Within m ts → Within m (take n ts)
within-take m zero ts w = tt
within-take m (suc n) [] w = tt
within-take m (suc n) (t ∷ ts) w = (w.0, within-take m n ts w.1)

after-length : (m : ℕ) (ts : List (List ℕ)) → Within m ts → length (commas_after ts) ≤ length ts * (m + 1)
after-length m [] w = omega arith
after-length m (t ∷ ts) w =
    omega (arith, w.0, length-append t (commas_after ts), after-length m ts w.1, suc-mul (length ts) (m + 1))

commas-length : (m : ℕ) (ts : List (List ℕ)) → Within m ts → length (commas ts) ≤ length ts * (m + 1) + 1
unfolding commas
commas-length m [] w = omega arith
commas-length m (t ∷ ts) w =
    omega (arith, w.0, length-append t (commas_after ts), after-length m ts w.1, suc-mul (length ts) (m + 1))

taken-length : (m n : ℕ) (ts : List (List ℕ)) → Within m ts → length (commas (take n ts)) ≤ n * (m + 1) + 1
taken-length m n ts w =
    let h : length (take n ts) ≤ n = rw (length-take n ts) (omega arith) in
    omega (arith, commas-length m (take n ts) (within-take m n ts w), mul-le-mul_right (m + 1) h)

within-numbers : (l : List ℕ) → Within 20 (map decimal l)
within-numbers [] = tt
within-numbers (x ∷ l) = (decimal-length x, within-numbers l)

within-pairs : (mark : ℕ) (l : List ℕ) → Within 41 (pair_texts mark l)
within-pairs mark [] = tt
within-pairs mark (x ∷ []) = tt
within-pairs mark (x ∷ y ∷ l) =
    (omega (arith, length-append (decimal x) (mark ∷ decimal y), decimal-length x, decimal-length y), within-pairs mark l)

pub listed-length : (n : ℕ) (l : List ℕ) → length (listed n l) ≤ n * 21 + 1
unfolding listed
listed-length n l = taken-length 20 n (map decimal l) (within-numbers l)

pub pairs-listed-length : (mark n : ℕ) (l : List ℕ) → length (pairs_listed mark n l) ≤ n * 42 + 1
unfolding pairs_listed
pairs-listed-length mark n l = taken-length 41 n (pair_texts mark l) (within-pairs mark l)
