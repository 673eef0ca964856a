-- One byte more of a line, in a buffer: by the tests of the code.
-- Assumes nothing.
use Rattle.std.specs.Prelude.{Option, Some, None}
use mathlib.Core.Path.{◌≡◌, refl, sym, ap, ◌∙◌}
use mathlib.Core.Bool.{Bool, true, false, ◌&&◌}
use mathlib.Core.List.{List, [], ◌∷◌, ◌++◌, append_assoc}
use Prim.Native.Nat.{ℕ, suc, ◌+◌, ◌-◌, ◌<◌, ◌≤◌}
use native.Mathlib.Numerals.{add-one}
use native.Mathlib.Omega.{arith}
use borrow.Author.Tests.{le-leb, lt-leb, eq-eqb, ne_eqb, leb-true}
use lib.Dec.{leb}
use lib.ListN.{length, get_or, take, drop, set, length-append}
use lib.Seq.{length-take-le, get_or-take, take-take, set_split}
use Rattle.reading.specs.Numbers.{is_digit}
use Rattle.reading.specs.Kept.{Buffer, is_edge, lone_zero, keep_byte, after}

-- ---- the byte before a number

-- ---- a single 0

module _ (s : List ℕ) (n : ℕ) (l : n ≤ length s) where
  pub zero-short : n < 2 → false ≡ lone_zero (take n s)
  unfolding lone_zero
  zero-short h = rw (length-take-le n s l, lt-leb 2 n h) refl

  module _ (h : 2 ≤ n) where
    pub zero-other : (get_or s (n - 1) 0 ≡ 48 → ⊥) → false ≡ lone_zero (take n s)
    unfolding lone_zero
    zero-other z =
        let a : n - 1 < n = omega arith in
        rw (length-take-le n s l, le-leb 2 n h, get_or-take n s (n - 1) 0 a, ne_eqb _ _ z) refl

    pub zero-lone : (r : Bool) → get_or s (n - 1) 0 ≡ 48 → r ≡ is_edge (get_or s (n - 2) 0) → r ≡ lone_zero (take n s)
    unfolding lone_zero
    zero-lone r z e =
        let a : n - 1 < n = omega arith in
        let b : n - 2 < n = omega arith in
        rw (length-take-le n s l, le-leb 2 n h, get_or-take n s (n - 1) 0 a, get_or-take n s (n - 2) 0 b, eq-eqb _ _ z) e

-- ---- a digit behind it

right_of : (a b : Bool) → (a && b) ≡ true → b ≡ true
right_of true b e = e
right_of false b e = absurd (let z : ◌≡◌ {A = ℕ} 0 1 = cc in omega arith)

left-of : (a b : Bool) → (a && b) ≡ true → a ≡ true
left-of true b e = refl
left-of false b e = e

lone-two : (s : List ℕ) (n : ℕ) → n ≤ length s → lone_zero (take n s) ≡ true → 2 ≤ n
unfolding lone_zero
lone-two s n l e = omega (arith, length-take-le n s l, leb-true 2 (length (take n s)) (left-of (leb 2 (length (take n s))) _ e))

pub replaced-two : (s : List ℕ) (n b : ℕ) (r : Bool) → n ≤ length s → r ≡ (is_digit b && lone_zero (take n s)) → r ≡ true → 2 ≤ n
replaced-two s n b r l e k = lone-two s n l (right_of (is_digit b) (lone_zero (take n s)) (sym e ∙ k))

-- ---- the buffer

abbrev pub Owed : List ℕ → Option ℕ → ℕ → Option ℕ → List ℕ → Type 0
Owed s k b r s' = (r ≡ (after s k b).kept) × (s' ≡ (after s k b).bytes)

owed : (s : List ℕ) (k : Option ℕ) (b : ℕ) (B : Buffer) → after s k b ≡ B → Owed s k b B.kept B.bytes
owed s k b B e = (ap (λ (x : Buffer). x.kept) (sym e), ap (λ (x : Buffer). x.bytes) (sym e))

pub was-long : (s : List ℕ) (k : Option ℕ) (b : ℕ) → k ≡ None → Owed s k b None s
unfolding after
was-long s k b e = owed s k b (record { kept = None; bytes = s }) (rw e refl)

module _ (s : List ℕ) (k : Option ℕ) (b n : ℕ) (e : k ≡ Some n) where
  pub no_such : length s < n → Owed s k b None s
  unfolding after
  no_such h = owed s k b (record { kept = None; bytes = s }) (rw (e, lt-leb n (length s) h) refl)

  module _ (l : n ≤ length s) (r : Bool) (er : r ≡ (is_digit b && lone_zero (take n s))) where
    pub replaced : r ≡ true → Owed s k b (Some n) (set s (n - 1) b)
    unfolding after keep_byte
    replaced t =
        let h : 2 ≤ n = replaced-two s n b r l er t in
        let m : n - 1 ≤ n = omega arith in
        let p : n - 1 ≤ length s = omega arith in
        let q : n - 1 < length s = omega arith in
        let u : (n - 1) + 1 ≡ n = omega arith in
        let v : suc (n - 1) ≡ n = omega arith in
        let w : length (take (n - 1) s ++ (b ∷ [])) ≡ n = length-append (take (n - 1) s) (b ∷ []) ∙ rw (length-take-le (n - 1) s p) u in
        let z : (take (n - 1) s ++ (b ∷ [])) ++ drop n s ≡ set s (n - 1) b =
        append_assoc (take (n - 1) s) (b ∷ []) (drop n s) ∙ sym (set_split s (n - 1) b q ∙ rw v refl) in
        owed s k b (record { kept = Some n; bytes = set s (n - 1) b })
        (rw (e, le-leb n (length s) l, sym er ∙ t, length-take-le n s l, take-take (n - 1) n s m, w, le-leb n (length s) l, z) refl)

    longer : length (take n s ++ (b ∷ [])) ≡ n + 1
    longer = length-append (take n s) (b ∷ []) ∙ rw (length-take-le n s l) refl

    pub full : r ≡ false → n ≡ length s → Owed s k b None s
    unfolding after keep_byte
    full t h =
        let g : length s < n + 1 = omega arith in
        owed s k b (record { kept = None; bytes = s }) (rw (e, le-leb n (length s) l, sym er ∙ t, longer, lt-leb (n + 1) (length s) g) refl)

    pub added : r ≡ false → (n ≡ length s → ⊥) → Owed s k b (Some (n + 1)) (set s n b)
    unfolding after keep_byte
    added t h =
        let g : n + 1 ≤ length s = omega arith in
        let q : n < length s = omega arith in
        let z : (take n s ++ (b ∷ [])) ++ drop (n + 1) s ≡ set s n b =
        append_assoc (take n s) (b ∷ []) (drop (n + 1) s) ∙ sym (set_split s n b q ∙ rw (sym (add-one n)) refl) in
        owed s k b (record { kept = Some (n + 1); bytes = set s n b }) (rw (e, le-leb n (length s) l, sym er ∙ t, longer, le-leb (n + 1) (length s) g, z) refl)
