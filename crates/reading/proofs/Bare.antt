-- What is kept of a line, told from its front: a 0 behind an edge goes where a digit follows it. By induction on the bytes that are
-- still to come. Assumes nothing.
use mathlib.Core.Path.{◌≡◌, refl, sym, ap, ◌∙◌}
use mathlib.Core.Bool.{Bool, true, false, cond, ◌&&◌, and-false}
use mathlib.Core.List.{List, [], ◌∷◌, ◌++◌, append_assoc}
use Prim.Native.Nat.{ℕ, ◌+◌, ◌-◌, ◌≤◌}
use native.Mathlib.Omega.{arith}
use borrow.Author.Tests.{le-leb, eqb-true}
use lib.Dec.{eqb}
use lib.ListN.{length, take, length-append}
use lib.Seq.{take_at, get_or-append-add}
use Rattle.reading.specs.Numbers.{zero_byte, is_digit}
use Rattle.reading.specs.Kept.{is_edge, lone_zero, keep_byte, kept_from, kept_line}

-- a byte behind x that is a 0 and leads the digits that follow it
unfoldable pub leads : ℕ → ℕ → List ℕ → Bool
leads x b [] = false
leads x b (d ∷ s) = is_digit d && (eqb b zero_byte && is_edge x)

-- a text behind x without such zeros
unfoldable pub bare : ℕ → List ℕ → List ℕ
bare x [] = []
bare x (b ∷ s) = cond (leads x b s) (bare x s) (b ∷ bare b s)

-- ---- what it is that leads

pub both : (a b : Bool) → (a && b) ≡ true → (a ≡ true) × (b ≡ true)
both true b e = (refl, e)
both false b e = absurd (let z : ◌≡◌ {A = ℕ} 0 1 = cc in omega arith)

pub leads-zero : (x b : ℕ) (s : List ℕ) → leads x b s ≡ true → b ≡ 48
unfolding leads
leads-zero x b [] e = absurd (let z : ◌≡◌ {A = ℕ} 0 1 = cc in omega arith)
leads-zero x b (d ∷ s) e = eqb-true b 48 (both (eqb b 48) (is_edge x) (both (is_digit d) (eqb b 48 && is_edge x) e).1).0

pub leads-digit : (x b d : ℕ) (s : List ℕ) → leads x b (d ∷ s) ≡ true → is_digit d ≡ true
unfolding leads
leads-digit x b d s e = (both (is_digit d) (eqb b zero_byte && is_edge x) e).0

pub leads-nowhere : (x b : ℕ) (s : List ℕ) → is_edge x ≡ false → leads x b s ≡ false
unfolding leads
leads-nowhere x b [] e = refl
leads-nowhere x b (d ∷ s) e = rw (e, and-false (eqb b zero_byte), and-false (is_digit d)) refl

-- ---- the bytes kept so far end in x: one more is a single 0 where it is a 0 and x an edge

abbrev Ends : List ℕ → ℕ → Type 0
Ends k x = (b : ℕ) → lone_zero (k ++ (b ∷ [])) ≡ (eqb b zero_byte && is_edge x)

ends-none : Ends [] 0
unfolding lone_zero
ends-none b = sym (and-false (eqb b zero_byte))

ends-in : (k : List ℕ) (c : ℕ) → Ends (k ++ (c ∷ [])) c
unfolding lone_zero
ends-in k c b =
    let m : (k ++ (c ∷ [])) ++ (b ∷ []) ≡ k ++ (c ∷ b ∷ []) = append_assoc k (c ∷ []) (b ∷ []) in
    let l : length (k ++ (c ∷ b ∷ [])) ≡ length k + 2 = length-append k (c ∷ b ∷ []) in
    let two : 2 ≤ length k + 2 = omega arith in
    let p : (length k + 2) - 1 ≡ length k + 1 = omega arith in
    let q : (length k + 2) - 2 ≡ length k + 0 = omega arith in
    rw (m, l, le-leb 2 (length k + 2) two, p, q, get_or-append-add k (c ∷ b ∷ []) 1 0, get_or-append-add k (c ∷ b ∷ []) 0 0) refl

-- ---- one byte more, and all bytes

placed : (k : List ℕ) (b c : ℕ) → take (length (k ++ (b ∷ [])) - 1) (k ++ (b ∷ [])) ++ (c ∷ []) ≡ k ++ (c ∷ [])
placed k b c = ap (λ (p : List ℕ). p ++ (c ∷ [])) (take_at k (b ∷ []) (length (k ++ (b ∷ [])) - 1) (omega (arith, length-append k (b ∷ []))))

from : (s k : List ℕ) (x b : ℕ) → Ends k x → kept_from (k ++ (b ∷ [])) s ≡ k ++ bare x (b ∷ s)
unfolding bare leads keep_byte
from [] k x b e = refl
from (c ∷ s) k x b e = rw (e b) (go (from s) (is_digit c && (eqb b zero_byte && is_edge x)))
  where
    go : ((k : List ℕ) (x b : ℕ) → Ends k x → kept_from (k ++ (b ∷ [])) s ≡ k ++ bare x (b ∷ s)) → (t : Bool)
        → kept_from (cond t (take (length (k ++ (b ∷ [])) - 1) (k ++ (b ∷ [])) ++ (c ∷ [])) ((k ++ (b ∷ [])) ++ (c ∷ []))) s
        ≡ k ++ cond t (bare x (c ∷ s)) (b ∷ bare b (c ∷ s))
    go ih true = rw (placed k b c) (ih k x c e)
    go ih false = ih (k ++ (b ∷ [])) b c (ends-in k b) ∙ append_assoc k (b ∷ []) (bare b (c ∷ s))

pub kept-bare : (s : List ℕ) → kept_line s ≡ bare 0 s
unfolding bare keep_byte lone_zero
kept-bare [] = refl
kept-bare (b ∷ s) = go (is_digit b && lone_zero [])
  where
    go : (t : Bool) → kept_from (cond t (b ∷ []) (b ∷ [])) s ≡ bare 0 (b ∷ s)
    go true = from s [] 0 b ends-none
    go false = from s [] 0 b ends-none
