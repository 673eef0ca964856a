-- Laws of `decimal`: the digits made one by one from the back, how many there are, and that reading them gives the number back.
-- Assumes nothing.
use Prim.Native.Nat.{ℕ, zero, suc, ◌+◌, ◌*◌, ◌-◌, ◌/◌, ◌%◌, ◌^◌, ◌≤◌, ◌<◌}
use mathlib.Core.Path.{◌≡◌, refl, ap, ◌∙◌}
use mathlib.Core.Logic.{⊎_elim}
use mathlib.Core.List.{List, [], ◌∷◌}
use native.Mathlib.Omega.{arith}
use native.Mathlib.Nat.{div-add-mod', div-lt_iff_lt-mul, pow-suc}
use lib.ListN.{length, take, drop, length-drop, set, length-set, drop_of_length-le}
use lib.Seq.{take_all, drop-cons, get_or-set_same, drop-set-lt}
use borrow.Author.Tests.{lt-ltb, le-ltb, lt-leb, le-leb}
use Rattle.lists.proofs.Cases.{lt-or-le}
use Rattle.texts.specs.Decimal.{glyph, digits_before, decimal, signed}

-- ---- one digit, at the place before those that stand already

set_before : (space : List ℕ) (k v : ℕ) → k < length space → drop k (set space k v) ≡ v ∷ drop (suc k) space
set_before space k v h =
    drop-cons (set space k v) k 0 (rw (length-set space k v) h)
    ∙ rw (get_or-set_same space k v 0 h, drop-set-lt (suc k) space k v (omega arith)) refl

pub digit-more : (space : List ℕ) (i n : ℕ) → 10 ≤ n → 1 ≤ i → i ≤ length space
    → digits_before (i - 1) (n / 10) (drop (i - 1) (set space (i - 1) (glyph (n % 10)))) ≡ digits_before i n (drop i space)
digit-more space zero n h p l = absurd (omega arith)
digit-more space (suc k) n h p l =
    let e : suc k - 1 ≡ k = omega arith in
    rw (e, set_before space k (glyph (n % 10)) (omega arith), le-ltb n 10 h) refl

pub digit-last : (space : List ℕ) (i n : ℕ) → n < 10 → 1 ≤ i → i ≤ length space
    → drop (i - 1) (set space (i - 1) (glyph n)) ≡ digits_before i n (drop i space)
digit-last space zero n h p l = absurd (omega arith)
digit-last space (suc k) n h p l =
    let e : suc k - 1 ≡ k = omega arith in
    rw (e, set_before space k (glyph n) (omega arith), lt-ltb n 10 h) refl

pub none_yet : (space : List ℕ) (n : ℕ) → length space ≡ 20 → digits_before 20 n (drop 20 space) ≡ decimal n
unfolding decimal
none_yet space n l = ap (digits_before 20 n) (drop_of_length-le space {i = 20} (omega arith))

-- the digits as the part of the space that is lent on
pub spelled : (space ds : List ℕ) (from : ℕ) → length space ≡ 20 → drop from space ≡ ds → take (20 - from) (drop from space) ≡ ds
spelled space ds from l e = take_all (20 - from) (drop from space) (rw (length-drop from space) (omega arith)) ∙ e

-- ---- the sign

pub signed-plain : (w : ℕ) → w < 2147483648 → decimal w ≡ signed w
unfolding signed
signed-plain w h = rw (lt-leb 2147483648 w h) refl

pub signed_below : (w : ℕ) → 2147483648 ≤ w → w < 4294967296 → 45 ∷ decimal (4294967296 - w) ≡ signed w
unfolding signed
signed_below w h s = rw (le-leb 2147483648 w h, lt-ltb w 4294967296 s) refl

pub signed-wide : (w : ℕ) → 2147483648 ≤ w → 4294967296 ≤ w → decimal w ≡ signed w
unfolding signed
signed-wide w h s = rw (le-leb 2147483648 w h, le-ltb w 4294967296 s) refl

-- ---- how many there are

tenth-below : (k n : ℕ) → n < 10 ^ suc k → n / 10 < 10 ^ k
tenth-below k n h = (div-lt_iff_lt-mul {k = 10} {x = n} {y = 10 ^ k} (omega arith)).1 (rw (pow-suc 10 k) at h)

pub tenth : (i n : ℕ) → 1 ≤ i → n < 10 ^ i → n / 10 < 10 ^ (i - 1)
tenth zero n p h = absurd (omega arith)
tenth (suc k) n p h =
    let e : suc k - 1 ≡ k = omega arith in
    rw e (tenth-below k n h)

pub two_digits : (i n : ℕ) → 10 ≤ n → n < 10 ^ i → 1 < i
two_digits zero n p h = absurd (omega (arith, h))
two_digits (suc zero) n p h = absurd (omega (arith, h))
two_digits (suc (suc k)) n p h = omega arith

-- ---- read back

-- the number that digits spell, after those that were read already
abbrev pub read_on : ℕ → List ℕ → ℕ
read_on n [] = n
read_on n (d ∷ ds) = read_on (n * 10 + (d - 48)) ds

read-digits : (k n : ℕ) (ds : List ℕ) → n < 10 ^ k → read_on 0 (digits_before k n ds) ≡ read_on n ds
read-digits zero n ds h = ap (λ (m : ℕ). read_on m ds) (omega (arith, h))
read-digits (suc k) n ds h =
    ⊎_elim
    (λ (s : n < 10). rw (lt-ltb n 10 s) (ap (λ (m : ℕ). read_on m ds) (omega arith)))
    (λ (s : 10 ≤ n).
    rw (le-ltb n 10 s)
    (read-digits k (n / 10) (glyph (n % 10) ∷ ds) (tenth-below k n h)
    ∙ ap (λ (m : ℕ). read_on m ds) (omega (arith, div-add-mod' n 10))))
    (lt-or-le n 10)

-- any word of 64 bits is below this
pub read-decimal : (n : ℕ) → n < 10 ^ 20 → read_on 0 (decimal n) ≡ n
unfolding decimal
read-decimal n h = read-digits 20 n [] h
