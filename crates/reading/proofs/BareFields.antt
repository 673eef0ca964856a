-- A bare field says what the field says: as a number, a code, an optional text, a list, and where it is asked for a letter. An edge is no
-- digit, so that behind the first byte of a number nothing leads. By induction on the field. Assumes nothing.
use Rattle.std.specs.Prelude.{Option, Some, None}
use mathlib.Core.Path.{◌≡◌, refl, sym, ap, ◌∙◌}
use mathlib.Core.Bool.{Bool, true, false, cond}
use mathlib.Core.List.{List, [], ◌∷◌}
use Prim.Native.Nat.{ℕ, zero, suc}
use native.Mathlib.Omega.{arith}
use borrow.Author.Tests.{eqb-true}
use lib.Dec.{eqb}
use Rattle.reading.specs.Numbers.{is_digit, grown, onward, number_of, plain_code, minus_code, code_of}
use Rattle.reading.specs.Fields.{letter_of, option_of}
use Rattle.reading.specs.Lists.{items_of, numbers_of, list_of}
use Rattle.reading.specs.Kept.{is_edge}
use Rattle.reading.proofs.Digits.{stuck}
use Rattle.reading.proofs.Run.{zero_number}
use Rattle.reading.proofs.Bare.{leads, bare, leads-zero, leads-digit, leads-nowhere}
use Rattle.reading.proofs.BareParts.{bare_parts, split_bare}

-- ---- a number

edge-no-digit : (b : ℕ) → is_edge b ≡ true → is_digit b ≡ false
edge-no-digit b e = go (eqb b 32) refl (eqb b 44) refl (eqb b 45) refl
  where
    go : (t : Bool) → eqb b 32 ≡ t → (u : Bool) → eqb b 44 ≡ u → (w : Bool) → eqb b 45 ≡ w → is_digit b ≡ false
    go true p u q w r = rw (eqb-true b 32 p) refl
    go false p true q w r = rw (eqb-true b 44 q) refl
    go false p false q true r = rw (eqb-true b 45 r) refl
    go false p false q false r = absurd (let f : is_edge b ≡ false = rw (p, q, r) refl in let z : ◌≡◌ {A = ℕ} 0 1 = cc in omega arith)

no-digit-is : (d m : ℕ) → is_digit d ≡ true → is_digit m ≡ false → eqb d m ≡ false
no-digit-is d m h n = go (eqb d m) refl
  where
    go : (t : Bool) → eqb d m ≡ t → t ≡ false
    go true q = absurd (let f : is_digit d ≡ false = rw (eqb-true d m q) n in let z : ◌≡◌ {A = ℕ} 0 1 = cc in omega arith)
    go false q = refl

no_digit : (v b : ℕ) → is_digit b ≡ false → grown v b ≡ None
unfolding grown
no_digit v b e = rw e refl

-- behind a first byte nothing leads: that byte is no edge, or no digit
grown-bare : (v b : ℕ) (s : List ℕ) → onward (grown v b) (bare b s) ≡ onward (grown v b) s
unfolding bare
grown-bare v b [] = refl
grown-bare v b (c ∷ s) = go (λ w. grown-bare w c s) (is_edge b) refl
  where
    next : ((w : ℕ) → onward (grown w c) (bare c s) ≡ onward (grown w c) s) → (n : Option ℕ) → onward n (c ∷ bare c s) ≡ onward n (c ∷ s)
    next ih None = refl
    next ih (Some w) = ih w

    go : ((w : ℕ) → onward (grown w c) (bare c s) ≡ onward (grown w c) s) → (t : Bool) → is_edge b ≡ t
        → onward (grown v b) (bare b (c ∷ s)) ≡ onward (grown v b) (c ∷ s)
    go ih true e = rw (no_digit v b (edge-no-digit b e)) (stuck (bare b (c ∷ s)))
    go ih false e = rw (leads-nowhere b c s e) (next ih (grown v b))

-- induction over the zeros that lead a text: each is gone, and what does not begin with one stays
pub number-bare : (x : ℕ) (s : List ℕ) → number_of (bare x s) ≡ number_of s
unfolding bare number_of leads
number-bare x [] = refl
number-bare x (b ∷ []) = refl
number-bare x (b ∷ d ∷ s) = go (number-bare x (d ∷ s)) (leads x b (d ∷ s)) refl
  where
    go : number_of (bare x (d ∷ s)) ≡ number_of (d ∷ s) → (t : Bool) → leads x b (d ∷ s) ≡ t
        → number_of (cond t (bare x (d ∷ s)) (b ∷ bare b (d ∷ s))) ≡ number_of (b ∷ d ∷ s)
    go ih true e = rw (leads-zero x b (d ∷ s) e) (ih ∙ sym (zero_number d s))
    go ih false e = grown-bare 0 b (d ∷ s)

-- ---- a code

pub code-bare : (x : ℕ) (s : List ℕ) → code_of (bare x s) ≡ code_of s
unfolding bare code_of number_of leads
code-bare x [] = refl
code-bare x (b ∷ []) = refl
code-bare x (b ∷ d ∷ s) = go (code-bare x (d ∷ s)) (leads x b (d ∷ s)) refl
  where
    signed : (t : Bool) → cond t (minus_code (number_of (bare b (d ∷ s)))) (plain_code (number_of (b ∷ bare b (d ∷ s)))) ≡ cond t (minus_code (number_of (d ∷ s))) (plain_code (number_of (b ∷ d ∷ s)))
    signed true = ap minus_code (number-bare b (d ∷ s))
    signed false = ap plain_code (grown-bare 0 b (d ∷ s))

    go : code_of (bare x (d ∷ s)) ≡ code_of (d ∷ s) → (t : Bool) → leads x b (d ∷ s) ≡ t
        → code_of (cond t (bare x (d ∷ s)) (b ∷ bare b (d ∷ s))) ≡ code_of (b ∷ d ∷ s)
    go ih true e = ih ∙ rw (no-digit-is d 45 (leads-digit x b d s e) refl, leads-zero x b (d ∷ s) e, zero_number d s) refl
    go ih false e = signed (eqb b 45)

-- ---- a letter

-- two bytes are no letter
two_bytes : (b x c : ℕ) (s : List ℕ) → letter_of (b ∷ bare x (c ∷ s)) ≡ 0
unfolding bare letter_of leads
two_bytes b x c [] = refl
two_bytes b x c (d ∷ s) = go (two_bytes b x d s) (leads x c (d ∷ s))
  where
    go : letter_of (b ∷ bare x (d ∷ s)) ≡ 0 → (t : Bool) → letter_of (b ∷ cond t (bare x (d ∷ s)) (c ∷ bare c (d ∷ s))) ≡ 0
    go ih true = ih
    go ih false = refl

-- the letter of a line stands behind no edge
pub letter-bare : (x : ℕ) (s : List ℕ) → is_edge x ≡ false → letter_of (bare x s) ≡ letter_of s
unfolding bare letter_of leads
letter-bare x [] h = refl
letter-bare x (b ∷ []) h = refl
letter-bare x (b ∷ c ∷ s) h = rw (leads-nowhere x b (c ∷ s) h) (two_bytes b b c s)

-- a digit that the zeros before it leave alone is asked for nowhere
pub asked-bare : (m x : ℕ) (s : List ℕ) → is_digit m ≡ false → eqb 0 m ≡ false → eqb (letter_of (bare x s)) m ≡ eqb (letter_of s) m
unfolding bare letter_of leads
asked-bare m x [] h n = refl
asked-bare m x (b ∷ []) h n = refl
asked-bare m x (b ∷ c ∷ s) h n = go (asked-bare m x (c ∷ s) h n) (leads x b (c ∷ s)) refl
  where
    digits : (t : List ℕ) → is_digit c ≡ true → eqb (letter_of (c ∷ t)) m ≡ false
    digits [] e = no-digit-is c m e h
    digits (d ∷ t) e = n

    go : eqb (letter_of (bare x (c ∷ s))) m ≡ eqb (letter_of (c ∷ s)) m → (t : Bool) → leads x b (c ∷ s) ≡ t
        → eqb (letter_of (cond t (bare x (c ∷ s)) (b ∷ bare b (c ∷ s)))) m ≡ eqb 0 m
    go ih true e = ih ∙ digits s (leads-digit x b c s e) ∙ sym n
    go ih false e = rw (two_bytes b b c s) refl

-- ---- an option, a list

pub option-bare : (x : ℕ) (s : List ℕ) → option_of (bare x s) ≡ option_of s
unfolding option_of
option-bare x s = rw (asked-bare 45 x s refl refl, number-bare x s) refl

numbers-bare : (sep room x : ℕ) (is : List (List ℕ)) → numbers_of room (bare_parts sep x is) ≡ numbers_of room is
unfolding numbers_of bare_parts
numbers-bare sep room x [] = refl
numbers-bare sep zero x (i ∷ is) = refl
numbers-bare sep (suc room) x (i ∷ is) = rw (number-bare x i, numbers-bare sep room sep is) refl

pub list-bare : (room x : ℕ) (s : List ℕ) → list_of room (bare x s) ≡ list_of room s
unfolding list_of
list-bare room x s = rw (asked-bare 45 x s refl refl, split_bare 44 refl s x, numbers-bare 44 room x (items_of s)) refl
