-- A digit more, by its tests, and a number read digit by digit: what is read from here on is what the whole field spells.
-- Assumes nothing.
use Rattle.std.specs.Prelude.{Option, Some, None}
use mathlib.Core.Path.{◌≡◌, refl, sym, ◌∙◌}
use mathlib.Core.List.{List, [], ◌∷◌}
use Prim.Native.Nat.{ℕ, ◌+◌, ◌*◌, ◌-◌, ◌^◌, ◌<◌, ◌≤◌}
use native.Mathlib.Numerals.{add-one}
use native.Mathlib.Omega.{arith}
use borrow.Author.Tests.{lt-ltb, le-ltb}
use mathlib.Core.Bool.{true, false}
use Rattle.std.specs.Option.{SomeIff}
use lib.ListN.{length, get_or, drop, drop_of_length-le}
use lib.Seq.{drop-cons}
use Rattle.reading.specs.Numbers.{is_digit, grown, onward, number_of}

-- ---- one digit

pub no_digit : (n b : ℕ) → is_digit b ≡ false → None ≡ grown n b
unfolding grown
no_digit n b h = rw h refl

-- ten times the number is above 64 bits
pub product_out : (n b : ℕ) → is_digit b ≡ true → (n * 10 < 2 ^ 64 → ⊥) → None ≡ grown n b
unfolding grown
product_out n b h l = rw (h, le-ltb (n * 10 + (b - 48)) (2 ^ 64) (omega arith)) refl

pub sum_in : (n b m d : ℕ) (r : Option ℕ) → is_digit b ≡ true → m ≡ n * 10 → d ≡ b - 48 → SomeIff r (m + d < 2 ^ 64) (m + d) → r ≡ grown n b
unfolding grown
sum_in n b m d None h e f s = rw (h, le-ltb (n * 10 + (b - 48)) (2 ^ 64) (let g : m + d < 2 ^ 64 → ⊥ = s in omega arith)) refl
sum_in n b m d (Some v) h e f s =
    let z : v ≡ n * 10 + (b - 48) = omega (arith, s.1) in
    rw (h, lt-ltb (n * 10 + (b - 48)) (2 ^ 64) (omega (arith, s.0)), z) refl

-- ---- all digits

pub empty : (s : List ℕ) → length s ≡ 0 → None ≡ number_of s
unfolding number_of
empty [] e = refl
empty (b ∷ s) e = absurd (omega arith)

pub begun : (s : List ℕ) → (length s ≡ 0 → ⊥) → onward (Some 0) s ≡ number_of s
unfolding number_of
begun [] ne = absurd (ne refl)
begun (b ∷ s) ne = refl

pub stuck : (s : List ℕ) → onward None s ≡ None
stuck [] = refl
stuck (b ∷ s) = refl

-- one digit is read
one_more : (s : List ℕ) (n i : ℕ) (r w : Option ℕ) → i < length s → r ≡ grown n (get_or s i 0) → onward (Some n) (drop i s) ≡ w → onward r (drop (i + 1) s) ≡ w
one_more s n i r w less e h = rw (e, add-one) (rw (drop-cons s i 0 less) at h)

pub turn : (s : List ℕ) (n i v : ℕ) (r w : Option ℕ) → i < length s → r ≡ Some v → r ≡ grown n (get_or s i 0) → onward (Some n) (drop i s) ≡ w → onward (Some v) (drop (i + 1) s) ≡ w
turn s n i v r w less k e h = one_more s n i (Some v) w less (sym k ∙ e) h

-- what is no digit is read
pub fault : (s : List ℕ) (n i : ℕ) (r w : Option ℕ) → i < length s → r ≡ None → r ≡ grown n (get_or s i 0) → onward (Some n) (drop i s) ≡ w → None ≡ w
fault s n i r w less k e h = sym (stuck (drop (i + 1) s)) ∙ one_more s n i None w less (sym k ∙ e) h

pub at-end : (s : List ℕ) (n i : ℕ) (w : Option ℕ) → length s ≤ i → onward (Some n) (drop i s) ≡ w → Some n ≡ w
at-end s n i w over h = rw (drop_of_length-le s over) at h
