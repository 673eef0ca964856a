-- A whole line taken byte by byte: the buffer holds what is kept of the line, or the line is too long for it. And a 0 that leads a
-- number, or a code behind its minus, changes nothing. By induction on the bytes. Assumes nothing.
use Rattle.std.specs.Prelude.{Some, None}
use mathlib.Core.Path.{◌≡◌, refl, sym, ap, subst}
use mathlib.Core.Bool.{Bool, true, false, cond, ◌&&◌}
use mathlib.Core.List.{List, [], ◌∷◌, ◌++◌}
use mathlib.Core.Logic.{◌⊎◌, inl, inr}
use Prim.Native.Nat.{ℕ, ◌-◌, ◌<◌, ◌≤◌}
use native.Mathlib.Omega.{arith}
use native.Mathlib.Decide.{dec_lt}
use borrow.Author.Tests.{le-leb, lt-leb}
use lib.ListN.{length, take, drop, length-append, length-drop}
use lib.Seq.{take-append_seam, length-take-le}
use Rattle.reading.specs.Numbers.{is_digit, grown, number_of, code_of}
use Rattle.reading.specs.Kept.{Buffer, lone_zero, keep_byte, kept_from, kept_line, after, run}

-- ---- a 0 that leads

pub zero_number : (d : ℕ) (s : List ℕ) → number_of (48 ∷ d ∷ s) ≡ number_of (d ∷ s)
unfolding number_of grown
zero_number d s = refl

pub zero-code : (d : ℕ) (s : List ℕ) → code_of (45 ∷ 48 ∷ d ∷ s) ≡ code_of (45 ∷ d ∷ s)
unfolding number_of grown code_of
zero-code d s = refl

-- ---- no byte shortens what is kept

keep-grows : (k : List ℕ) (b : ℕ) → length k ≤ length (keep_byte k b)
unfolding keep_byte
keep-grows k b = go (is_digit b && lone_zero k)
  where
    go : (t : Bool) → length k ≤ length (cond t (take (length k - 1) k ++ (b ∷ [])) (k ++ (b ∷ [])))
    go true = omega (arith, length-append (take (length k - 1) k) (b ∷ []), length-take-le (length k - 1) k (omega arith))
    go false = omega (arith, length-append k (b ∷ []))

pub kept-grows : (s k : List ℕ) → length k ≤ length (kept_from k s)
kept-grows [] k = omega arith
kept-grows (b ∷ s) k = omega (arith, keep-grows k b, kept-grows s (keep_byte k b))

-- ---- all bytes

step : (buffer : List ℕ) (n b : ℕ) → n ≤ length buffer → length (keep_byte (take n buffer) b) ≤ length buffer
    → after buffer (Some n) b
    ≡ record { kept = Some (length (keep_byte (take n buffer) b)); bytes = keep_byte (take n buffer) b ++ drop (length (keep_byte (take n buffer) b)) buffer }
unfolding after
step buffer n b l h = rw (le-leb n (length buffer) l, le-leb (length (keep_byte (take n buffer) b)) (length buffer) h) refl

same-room : (buffer k : List ℕ) → length k ≤ length buffer → length (k ++ drop (length k) buffer) ≡ length buffer
same-room buffer k h = omega (arith, length-append k (drop (length k) buffer), length-drop (length k) buffer)

abbrev pub Holds : List ℕ → Buffer → Type 0
Holds k B = (B.kept ≡ Some (length k)) × (take (length k) B.bytes ≡ k)

pub run-kept : (s buffer : List ℕ) (n : ℕ) → n ≤ length buffer → length (kept_from (take n buffer) s) ≤ length buffer
    → Holds (kept_from (take n buffer) s) (run buffer (Some n) s)
run-kept [] buffer n l h = (ap Some (sym (length-take-le n buffer l)), ap (λ (m : ℕ). take m buffer) (length-take-le n buffer l))
run-kept (b ∷ s) buffer n l h =
    let k : List ℕ = keep_byte (take n buffer) b in
    let g : length k ≤ length buffer = omega (arith, kept-grows s (keep_byte (take n buffer) b)) in
    let m : length k ≤ length (k ++ drop (length k) buffer) = omega (arith, same-room buffer k g) in
    let t : take (length k) (k ++ drop (length k) buffer) ≡ k = take-append_seam k (drop (length k) buffer) in
    let q : length (kept_from (take (length k) (k ++ drop (length k) buffer)) s) ≤ length (k ++ drop (length k) buffer) = rw (t, same-room buffer k g) h in
    subst (λ (B : Buffer). Holds (kept_from k s) (run B.bytes B.kept s)) (sym (step buffer n b l g)) (rw t at (run-kept s (k ++ drop (length k) buffer) (length k) m q))

-- once too long, a line stays so
stays-long : (s buffer : List ℕ) → (run buffer None s).kept ≡ None
unfolding after
stays-long [] buffer = refl
stays-long (b ∷ s) buffer = stays-long s buffer

over : (buffer : List ℕ) (n b : ℕ) → n ≤ length buffer → length buffer < length (keep_byte (take n buffer) b)
    → after buffer (Some n) b ≡ record { kept = None; bytes = buffer }
unfolding after
over buffer n b l h = rw (le-leb n (length buffer) l, lt-leb (length (keep_byte (take n buffer) b)) (length buffer) h) refl

ltle : (a b : ℕ) → Dec (a < b) → (a < b) ⊎ (b ≤ a)
ltle a b (yes h) = inl h
ltle a b (no h) = inr (omega arith)

pub run_long : (s buffer : List ℕ) (n : ℕ) → n ≤ length buffer → length buffer < length (kept_from (take n buffer) s) → (run buffer (Some n) s).kept ≡ None
run_long [] buffer n l h = absurd (omega (arith, length-take-le n buffer l))
run_long (b ∷ s) buffer n l h = go (run_long s) (ltle (length buffer) (length (keep_byte (take n buffer) b)) (dec_lt (length buffer) (length (keep_byte (take n buffer) b))))
  where
    go : ((w : List ℕ) (m : ℕ) → m ≤ length w → length w < length (kept_from (take m w) s) → (run w (Some m) s).kept ≡ None)
        → (length buffer < length (keep_byte (take n buffer) b)) ⊎ (length (keep_byte (take n buffer) b) ≤ length buffer)
        → (run (after buffer (Some n) b).bytes (after buffer (Some n) b).kept s).kept ≡ None
    go ih (inl g) = rw (over buffer n b l g) (stays-long s buffer)
    go ih (inr g) =
        let k : List ℕ = keep_byte (take n buffer) b in
        let m : length k ≤ length (k ++ drop (length k) buffer) = omega (arith, same-room buffer k g) in
        let t : take (length k) (k ++ drop (length k) buffer) ≡ k = take-append_seam k (drop (length k) buffer) in
        let q : length (k ++ drop (length k) buffer) < length (kept_from (take (length k) (k ++ drop (length k) buffer)) s) = rw (t, same-room buffer k g) h in
        rw (step buffer n b l g) (ih (k ++ drop (length k) buffer) (length k) m q)

-- ---- from the first byte

pub line_kept : (s buffer : List ℕ) → length (kept_line s) ≤ length buffer → Holds (kept_line s) (run buffer (Some 0) s)
line_kept s buffer h = run-kept s buffer 0 (omega arith) h

pub line-long : (s buffer : List ℕ) → length buffer < length (kept_line s) → (run buffer (Some 0) s).kept ≡ None
line-long s buffer h = run_long s buffer 0 (omega arith) h
