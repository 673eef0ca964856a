-- How long a bare field is that says something, by the length of a bare number: a letter, `-`, a code, a list of at most so many numbers.
-- Assumes nothing.
use Rattle.std.specs.Prelude.{Option, Some, None}
use mathlib.Core.Path.{◌≡◌, refl, sym, ap, ◌∙◌}
use mathlib.Core.Bool.{Bool, true, false, cond}
use mathlib.Core.List.{List, [], ◌∷◌}
use Prim.Native.Nat.{ℕ, zero, suc, ◌+◌, ◌*◌, ◌≤◌}
use native.Mathlib.Omega.{arith}
use borrow.Author.Tests.{eqb-true}
use lib.Dec.{eqb}
use lib.ListN.{length, take}
use Rattle.types.specs.declared.records.Optional.{Optional}
use Rattle.types.specs.declared.records.OrderingMode.{OrderingMode}
use Rattle.reading.specs.Numbers.{number_of, plain_code, minus_code, code_of}
use Rattle.reading.specs.Fields.{split, push, up_to, letter_of, present, option_of}
use Rattle.reading.specs.Lists.{items_of, before, numbers_of, list_of}
use Rattle.reading.specs.Lines.{mode_of}
use Rattle.reading.specs.Kept.{is_edge}
use Rattle.reading.proofs.Parts.{later, split-first}
use Rattle.reading.proofs.Bare.{leads, bare, leads-zero}
use Rattle.reading.proofs.BareParts.{bare_parts, split_bare}
use Rattle.reading.proofs.NumberLengths.{bare-short, number_short}

-- ---- a letter

pub letter-short : (x : ℕ) (s : List ℕ) → (letter_of s ≡ 0 → ⊥) → length (bare x s) ≤ 1
unfolding letter_of
letter-short x [] h = omega (arith, bare-short x [])
letter-short x (b ∷ []) h = omega (arith, bare-short x (b ∷ []))
letter-short x (b ∷ c ∷ s) h = absurd (h refl)

minus-short : (x : ℕ) (s : List ℕ) → eqb (letter_of s) 45 ≡ true → length (bare x s) ≤ 1
minus-short x s e = letter-short x s (λ z. let m : letter_of s ≡ 45 = eqb-true (letter_of s) 45 e in omega arith)

pub mode-short : (x : ℕ) (m : OrderingMode) (s : List ℕ) → mode_of (letter_of s) ≡ Some m → length (bare x s) ≤ 1
mode-short x m s e = letter-short x s none-there
  where
    none-there : letter_of s ≡ 0 → ⊥
    none-there z = let f : None ≡ Some m = rw z at e in let z : ◌≡◌ {A = ℕ} 0 1 = cc in omega arith

-- ---- an option, a code

pub option-short : (x : ℕ) (o : Optional) (s : List ℕ) → is_edge x ≡ true → option_of s ≡ Some o → length (bare x s) ≤ 20
unfolding option_of
option-short x o s h e = go (eqb (letter_of s) 45) refl (number_of s) refl e
  where
    go : (t : Bool) → eqb (letter_of s) 45 ≡ t → (n : Option ℕ) → number_of s ≡ n → cond t (Some (record { flag = 0; word = 0 })) (present n) ≡ Some o → length (bare x s) ≤ 20
    go true q n r e = omega (arith, minus-short x s q)
    go false q None r e = absurd (let z : ◌≡◌ {A = ℕ} 0 1 = cc in omega arith)
    go false q (Some v) r e = number_short x v s h r

pub code-short : (x v : ℕ) (s : List ℕ) → is_edge x ≡ true → code_of s ≡ Some v → length (bare x s) ≤ 21
unfolding code_of bare
code-short x v [] h e = omega arith
code-short x v (b ∷ s) h e = go (eqb b 45) refl e
  where
    plain : (n : Option ℕ) → number_of (b ∷ s) ≡ n → plain_code n ≡ Some v → length (bare x (b ∷ s)) ≤ 21
    plain None q e = absurd (let z : ◌≡◌ {A = ℕ} 0 1 = cc in omega arith)
    plain (Some u) q e = omega (arith, number_short x u (b ∷ s) h q)

    minus : b ≡ 45 → (n : Option ℕ) → number_of s ≡ n → minus_code n ≡ Some v → (t : Bool) → leads x b s ≡ t → length (cond t (bare x s) (b ∷ bare b s)) ≤ 21
    minus m None q e t l = absurd (let z : ◌≡◌ {A = ℕ} 0 1 = cc in omega arith)
    minus m (Some u) q e true l = absurd (omega (arith, leads-zero x b s l))
    minus m (Some u) q e false l = omega (arith, number_short b u s (rw m refl) q)

    go : (t : Bool) → eqb b 45 ≡ t → cond t (minus_code (number_of s)) (plain_code (number_of (b ∷ s))) ≡ Some v → length (bare x (b ∷ s)) ≤ 21
    go true q e = minus (eqb-true b 45 q) (number_of s) refl e (leads x b s) refl
    go false q e = plain (number_of (b ∷ s)) refl e

-- ---- parts of a text

-- with the separator behind each
unfoldable pub total : List (List ℕ) → ℕ
total [] = 0
total (f ∷ fs) = suc (length f) + total fs

pub split-total : (sep : ℕ) (s : List ℕ) → total (split sep s) ≡ suc (length s)
unfolding total split
split-total sep [] = refl
split-total sep (b ∷ s) = go (split-total sep s) (eqb b sep)
  where
    go : total (split sep s) ≡ suc (length s) → (t : Bool) → total (cond t ([] ∷ split sep s) (push b (split sep s))) ≡ suc (suc (length s))
    go ih true = omega arith
    go ih false = rw (split-first sep s) (let q : total (take (up_to sep s) s ∷ later sep s) ≡ suc (length s) = rw (split-first sep s) at ih in omega arith)

-- ---- a list

items-short : (sep x room : ℕ) (is : List (List ℕ)) (vs : List ℕ) → is_edge sep ≡ true → is_edge x ≡ true → numbers_of room is ≡ Some vs
    → (total (bare_parts sep x is) ≤ 21 * length vs) × (length vs ≤ room)
unfolding total numbers_of bare_parts
items-short sep x room [] vs g h e =
    let q : [] ≡ vs = cc in
    let n : 0 ≡ length vs = ap length q in
    (omega arith, omega arith)
items-short sep x zero (i ∷ is) vs g h e = absurd (let z : ◌≡◌ {A = ℕ} 0 1 = cc in omega arith)
items-short sep x (suc room) (i ∷ is) vs g h e = go (items-short sep sep room is) (number_of i) refl (numbers_of room is) refl e
  where
    go : ((us : List ℕ) → is_edge sep ≡ true → is_edge sep ≡ true → numbers_of room is ≡ Some us → (total (bare_parts sep sep is) ≤ 21 * length us) × (length us ≤ room))
        → (n : Option ℕ) → number_of i ≡ n → (o : Option (List ℕ)) → numbers_of room is ≡ o → before n o ≡ Some vs
        → (suc (length (bare x i)) + total (bare_parts sep sep is) ≤ 21 * length vs) × (length vs ≤ suc room)
    go ih None p o q e = absurd (let z : ◌≡◌ {A = ℕ} 0 1 = cc in omega arith)
    go ih (Some v) p None q e = absurd (let z : ◌≡◌ {A = ℕ} 0 1 = cc in omega arith)
    go ih (Some v) p (Some us) q e =
        let c : v ∷ us ≡ vs = cc in
        let n : suc (length us) ≡ length vs = ap length c in
        let b : length (bare x i) ≤ 20 = number_short x v i h p in
        let t : (total (bare_parts sep sep is) ≤ 21 * length us) × (length us ≤ room) = ih us g g q in
        (omega (arith, t.0), omega (arith, t.1))

pub list-short : (x room : ℕ) (vs s : List ℕ) → is_edge x ≡ true → list_of room s ≡ Some vs → (length (bare x s) ≤ 21 * length vs + 1) × (length vs ≤ room)
unfolding list_of
list-short x room vs s h e = go (eqb (letter_of s) 45) refl e
  where
    go : (t : Bool) → eqb (letter_of s) 45 ≡ t → cond t (Some []) (numbers_of room (items_of s)) ≡ Some vs → (length (bare x s) ≤ 21 * length vs + 1) × (length vs ≤ room)
    go true q e =
        let c : [] ≡ vs = cc in
        let n : 0 ≡ length vs = ap length c in
        (omega (arith, minus-short x s q), omega arith)
    go false q e =
        let t : (total (bare_parts 44 x (items_of s)) ≤ 21 * length vs) × (length vs ≤ room) = items-short 44 x room (items_of s) vs refl h e in
        let b : total (bare_parts 44 x (items_of s)) ≡ suc (length (bare x s)) = sym (ap total (split_bare 44 refl s x)) ∙ split-total 44 (bare x s) in
        (omega (arith, t.0), t.1)
