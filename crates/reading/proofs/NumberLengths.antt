-- How long a bare field is that says something: a number of more than 20 digits that does not begin with 0 is above 64 bits.
-- By induction on the field. Assumes nothing.
use Rattle.std.specs.Prelude.{Option, Some, None}
use mathlib.Core.Path.{◌≡◌, refl, sym, ◌∙◌}
use mathlib.Core.Bool.{Bool, true, false, cond, and-true}
use mathlib.Core.List.{List, [], ◌∷◌}
use Prim.Native.Nat.{ℕ, suc, ◌+◌, ◌*◌, ◌-◌, ◌^◌, ◌<◌, ◌≤◌}
use native.Mathlib.Nat.{pow-succ', pow-le-pow_right, mul-le-mul_right, mul_assoc}
use native.Mathlib.Omega.{arith}
use native.Mathlib.Decide.{dec_lt}
use borrow.Author.Tests.{ltb-true, leb-true}
use lib.Dec.{ltb, leb}
use lib.ListN.{length}
use Rattle.reading.specs.Numbers.{is_digit, grown, onward, number_of}
use Rattle.reading.specs.Kept.{is_edge}
use Rattle.reading.proofs.Digits.{stuck}
use Rattle.reading.proofs.Run.{zero_number}
use Rattle.reading.proofs.Bare.{leads, bare, both, leads-zero}

pub bare-short : (x : ℕ) (s : List ℕ) → length (bare x s) ≤ length s
unfolding bare
bare-short x [] = omega arith
bare-short x (b ∷ s) = go (bare-short x s) (bare-short b s) (leads x b s)
  where
    go : length (bare x s) ≤ length s → length (bare b s) ≤ length s → (t : Bool) → length (cond t (bare x s) (b ∷ bare b s)) ≤ suc (length s)
    go p q true = omega arith
    go p q false = omega arith

-- ---- each digit makes a number ten times as large

-- what a digit more makes of a number that stays one
grown-value : (v b u : ℕ) → grown v b ≡ Some u → (is_digit b ≡ true) × (u ≡ v * 10 + (b - 48)) × (u < 2 ^ 64)
unfolding grown
grown-value v b u e = go (is_digit b) (ltb (v * 10 + (b - 48)) (2 ^ 64)) refl e
  where
    go : (t w : Bool) → ltb (v * 10 + (b - 48)) (2 ^ 64) ≡ w → cond t (cond w (Some (v * 10 + (b - 48))) None) None ≡ Some u
        → (t ≡ true) × (u ≡ v * 10 + (b - 48)) × (u < 2 ^ 64)
    go true true q e = let z : u ≡ v * 10 + (b - 48) = cc in (refl, z, omega (arith, ltb-true (v * 10 + (b - 48)) (2 ^ 64) q))
    go true false q e = absurd (let z : ◌≡◌ {A = ℕ} 0 1 = cc in omega arith)
    go false w q e = absurd (let z : ◌≡◌ {A = ℕ} 0 1 = cc in omega arith)

tenfold : (v w : ℕ) (s : List ℕ) → v < 2 ^ 64 → onward (Some v) s ≡ Some w → v * 10 ^ length s < 2 ^ 64
tenfold v w [] l e = omega arith
tenfold v w (b ∷ s) l e = go (λ u. tenfold u w s) (grown v b) refl e
  where
    go : ((u : ℕ) → u < 2 ^ 64 → onward (Some u) s ≡ Some w → u * 10 ^ length s < 2 ^ 64) → (n : Option ℕ) → grown v b ≡ n → onward n s ≡ Some w
        → v * 10 ^ suc (length s) < 2 ^ 64
    go ih None q e = absurd (let f : None ≡ Some w = sym (stuck s) ∙ e in let z : ◌≡◌ {A = ℕ} 0 1 = cc in omega arith)
    go ih (Some u) q e =
        let g : (is_digit b ≡ true) × (u ≡ v * 10 + (b - 48)) × (u < 2 ^ 64) = grown-value v b u q in
        let p : v * 10 ≤ u = omega (arith, g.1) in
        let m : v * 10 * 10 ^ length s ≤ u * 10 ^ length s = mul-le-mul_right (10 ^ length s) p in
        let a : v * 10 ^ suc (length s) ≡ v * 10 * 10 ^ length s = rw (pow-succ' 10 (length s)) (sym (mul_assoc v 10 (10 ^ length s))) in
        omega (arith, ih u g.2 e)

few-digits : (v w : ℕ) (s : List ℕ) → 1 ≤ v → v < 2 ^ 64 → onward (Some v) s ≡ Some w → length s ≤ 19
few-digits v w s h l e = go (dec_lt 19 (length s))
  where
    go : Dec (19 < length s) → length s ≤ 19
    go (no n) = omega arith
    go (yes y) =
        let i : 20 ≤ length s = omega arith in
        let p : 10 ^ 20 ≤ 10 ^ length s = pow-le-pow_right (omega arith) i in
        let m : 1 * 10 ^ length s ≤ v * 10 ^ length s = mul-le-mul_right (10 ^ length s) h in
        let t : v * 10 ^ length s < 2 ^ 64 = tenfold v w s l e in
        absurd (omega arith)

-- ---- a number

no_digit : (u d w : ℕ) (s : List ℕ) → is_digit d ≡ false → onward (Some u) (d ∷ s) ≡ Some w → ⊥
unfolding grown
no_digit u d w s h e = let f : None ≡ Some w = sym (stuck s) ∙ (rw h at e) in let z : ◌≡◌ {A = ℕ} 0 1 = cc in omega arith

-- a 0 behind an edge that leads nothing has no digit behind it
leads-none : (x b d : ℕ) (s : List ℕ) → is_edge x ≡ true → b ≡ 48 → leads x b (d ∷ s) ≡ false → is_digit d ≡ false
unfolding leads
leads-none x b d s h z l = sym (and-true (is_digit d)) ∙ (rw (z, h) at l)

pub number_short : (x w : ℕ) (s : List ℕ) → is_edge x ≡ true → number_of s ≡ Some w → length (bare x s) ≤ 20
unfolding bare number_of leads
number_short x w [] h e = omega arith
number_short x w (b ∷ []) h e = omega arith
number_short x w (b ∷ d ∷ s) h e = go (number_short x w (d ∷ s) h) (leads x b (d ∷ s)) refl
  where
    first : (n : Option ℕ) → grown 0 b ≡ n → onward n (d ∷ s) ≡ Some w → leads x b (d ∷ s) ≡ false → length (d ∷ s) ≤ 19
    first None q e l = absurd (let z : ◌≡◌ {A = ℕ} 0 1 = cc in omega arith)
    first (Some u) q e l =
        by_size (dec_lt 0 u)
      where
        by_size : Dec (0 < u) → length (d ∷ s) ≤ 19
        by_size (yes y) = few-digits u w (d ∷ s) (omega arith) (grown-value 0 b u q).2 e
        by_size (no n) =
            let m : 48 ≤ b = leb-true 48 b (both (leb 48 b) (leb b 57) (grown-value 0 b u q).0).0 in
            let z : b ≡ 48 = omega (arith, (grown-value 0 b u q).1) in
            absurd (no_digit u d w s (leads-none x b d s h z l) e)

    go : (number_of (d ∷ s) ≡ Some w → length (bare x (d ∷ s)) ≤ 20) → (t : Bool) → leads x b (d ∷ s) ≡ t
        → length (cond t (bare x (d ∷ s)) (b ∷ bare b (d ∷ s))) ≤ 20
    go ih true l = ih (sym (zero_number d s) ∙ (rw (leads-zero x b (d ∷ s) l) at e))
    go ih false l = omega (arith, bare-short b (d ∷ s), first (grown 0 b) refl e l)
