-- `tick (inside first last h)`: 1 where the range holds h, 0 elsewhere, and the sum of both parts where a range is cut in two; by which of the
-- bounds h is below. Assumes nothing.
use Prim.Native.Nat.{ℕ, ◌+◌, ◌≤◌, ◌<◌}
use native.Mathlib.Omega.{arith}
use mathlib.Core.Path.{◌≡◌, refl}
use mathlib.Core.Bool.{Bool, true, false, ◌&&◌}
use mathlib.Core.Logic.{⊎_elim}
use borrow.Author.Tests.{le-leb, lt-leb}
use lib.Dec.{leb}
use Rattle.lists.specs.Lists.{tick}
use Rattle.lists.proofs.Cases.{lt-or-le}
use Rattle.rules.specs.Tiling.{inside}

pub inside_is : (a b h : ℕ) → a ≤ h → h ≤ b → inside a b h ≡ true
inside_is a b h p q = rw (le-leb a h p, le-leb h b q)

pub in-tick : (a b h : ℕ) → a ≤ h → h ≤ b → tick (inside a b h) ≡ 1
in-tick a b h p q = rw (inside_is a b h p q)

pub low-tick : (a b h : ℕ) → h < a → tick (inside a b h) ≡ 0
low-tick a b h p = rw (lt-leb a h p)

and_no : (t : Bool) → t && false ≡ false
and_no true = refl
and_no false = refl

pub high-tick : (a b h : ℕ) → b < h → tick (inside a b h) ≡ 0
high-tick a b h p = rw (lt-leb h b p, and_no (leb a h))

-- what a tick tells
pub tick-in : (a b h : ℕ) → 1 ≤ tick (inside a b h) → (a ≤ h) × (h ≤ b)
tick-in a b h t =
    ⊎_elim (λ (p : h < a). absurd (omega (arith, low-tick a b h p)))
    (λ (p : a ≤ h).
    ⊎_elim (λ (q : b < h). absurd (omega (arith, high-tick a b h q))) (λ (q : h ≤ b). (p, q)) (lt-or-le b h))
    (lt-or-le h a)

-- a range cut in two
pub tick-split : (a b c h : ℕ) → a ≤ b → b < c → tick (inside a c h) ≡ tick (inside a b h) + tick (inside (b + 1) c h)
tick-split a b c h p q =
    ⊎_elim (λ (k : h < a). omega (arith, low-tick a c h k, low-tick a b h k, low-tick (b + 1) c h (omega arith)))
    (λ (k : a ≤ h).
    ⊎_elim
    (λ (m : b < h).
    ⊎_elim (λ (n : c < h). omega (arith, high-tick a c h n, high-tick a b h m, high-tick (b + 1) c h n))
    (λ (n : h ≤ c). omega (arith, in-tick a c h k n, high-tick a b h m, in-tick (b + 1) c h (omega arith) n)) (lt-or-le c h))
    (λ (m : h ≤ b). omega (arith, in-tick a c h k (omega arith), in-tick a b h k m, low-tick (b + 1) c h (omega arith)))
    (lt-or-le b h))
    (lt-or-le h a)
