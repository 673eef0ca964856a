-- Laws of `Wrote`. Bytes that follow bytes are written as one run of bytes, wherever the area ends.
-- Assumes nothing.
use Prim.Native.Nat.{ℕ, suc, ◌+◌, ◌≤◌, ◌<◌, min}
use mathlib.Core.Path.{◌≡◌, refl, sym, ap, ◌∙◌}
use mathlib.Core.Logic.{⊎_elim}
use mathlib.Core.List.{List, [], ◌∷◌, ◌++◌}
use native.Mathlib.Omega.{arith}
use native.Mathlib.Nat.{min-eq_left, min-eq_right}
use native.Mathlib.Numerals.{add-one}
use lib.ListN.{length, get_or, set, take, length-append}
use lib.Seq.{length-sets, sets-eq, set_out, take_at, take-suc}
use Rattle.lists.proofs.Cases.{lt-or-le}
use Rattle.texts.specs.Written.{written, Wrote}

-- past the end nothing is written
pub written-past : (area : List ℕ) (at : ℕ) (bytes : List ℕ) → length area ≤ at → written area at bytes ≡ area
written-past area at [] h = refl
written-past area at (b ∷ bytes) h =
    rw (set_out area at b h) (written-past area (suc at) bytes (omega arith))

written_both : (area : List ℕ) (at : ℕ) (xs ys : List ℕ) → written (written area at xs) (at + length xs) ys ≡ written area at (xs ++ ys)
written_both area at [] ys = ap (λ (k : ℕ). written area k ys) (omega arith)
written_both area at (x ∷ xs) ys =
    let e : at + suc (length xs) ≡ suc at + length xs = omega arith in
    ap (λ (k : ℕ). written (written (set area at x) (suc at) xs) k ys) e ∙ written_both (set area at x) (suc at) xs ys

-- written after written is written of both
pub written_on : (area : List ℕ) (at : ℕ) (xs ys : List ℕ) →
    written (written area at xs) (min (at + length xs) (length area)) ys ≡ written area at (xs ++ ys)
written_on area at xs ys =
    ⊎_elim
    (λ (h : at + length xs < length area). ap (λ (k : ℕ). written (written area at xs) k ys) (min-eq_left (omega arith)) ∙ written_both area at xs ys)
    (λ (h : length area ≤ at + length xs).
    ap (λ (k : ℕ). written (written area at xs) k ys) (min-eq_right h)
    ∙ written-past (written area at xs) (length area) ys (rw (length-sets area at xs) (omega arith))
    ∙ sym (written-past (written area at xs) (at + length xs) ys (rw (length-sets area at xs) h))
    ∙ written_both area at xs ys)
    (lt-or-le (at + length xs) (length area))

pub kept : {area : List ℕ} {at : ℕ} {xs after : List ℕ} {p : ℕ} → Wrote area at xs after p → length after ≡ length area
kept {area} {at} {xs} w = ap length w.holds ∙ length-sets area at xs

pub nothing : (area : List ℕ) (at p : ℕ) → p ≡ min at (length area) → Wrote area at [] area p
nothing area at p e = record { holds = refl; stands = e ∙ ap (λ (k : ℕ). min k (length area)) (omega arith) }

pub byte_past : (area : List ℕ) (at b : ℕ) → length area ≤ at → Wrote area at (b ∷ []) area (length area)
byte_past area at b h = record { holds = sym (set_out area at b h); stands = omega arith }

pub on : {area : List ℕ} {at : ℕ} {xs after : List ℕ} {p : ℕ} {ys last : List ℕ} {q : ℕ}
    → Wrote area at xs after p → Wrote after p ys last q → Wrote area at (xs ++ ys) last q
on {area} {at} {xs} {after} {p} {ys} {last} {q} w v =
    record {
      holds =
          v.holds
          ∙ ap (λ (l : List ℕ). written l p ys) w.holds
          ∙ ap (λ (k : ℕ). written (written area at xs) k ys) w.stands
          ∙ written_on area at xs ys;
      stands = omega (arith, v.stands, w.stands, kept w, length-append xs ys);
    }

-- the same bytes, said in other words
pub said : {area : List ℕ} {at : ℕ} {xs ys after : List ℕ} {p : ℕ} → xs ≡ ys → Wrote area at xs after p → Wrote area at ys after p
said e w = rw e at w

-- one byte more of a run of bytes
pub byte-on : (bytes : List ℕ) (i : ℕ) {area : List ℕ} {at : ℕ} {after : List ℕ} {p : ℕ} {last : List ℕ} {q : ℕ} → i < length bytes
    → Wrote area at (take i bytes) after p → Wrote after p (get_or bytes i 0 ∷ []) last q → Wrote area at (take (i + 1) bytes) last q
byte-on bytes i h w v = rw (add-one, take-suc bytes i 0) (on w v)

-- what stands at the front of an area that had room
pub front-is : (area bytes : List ℕ) → length bytes ≤ length area → take (length bytes) (written area 0 bytes) ≡ bytes
front-is area bytes h = ap (take (length bytes)) (sets-eq bytes area 0 (omega arith)) ∙ take_at bytes _ _ refl

-- a line written from the front of an area that has room for it: it stands there whole
pub whole : {area bytes after : List ℕ} {r : ℕ} → Wrote area 0 bytes after r → length bytes ≤ length area
    → (r ≡ length bytes) × (take r after ≡ bytes)
whole {area} {bytes} {after} {r} w h =
    let e : r ≡ length bytes = omega (arith, w.stands) in
    (e, ap (λ (k : ℕ). take k after) e ∙ ap (take (length bytes)) w.holds ∙ front-is area bytes h)

-- two answers that satisfy the promise are equal, and so are the areas
pub unique : {area : List ℕ} {at : ℕ} {bytes x : List ℕ} {p : ℕ} {y : List ℕ} {q : ℕ} → Wrote area at bytes x p → Wrote area at bytes y q → (x ≡ y) × (p ≡ q)
unique w v = (w.holds ∙ sym v.holds, w.stands ∙ sym v.stands)
