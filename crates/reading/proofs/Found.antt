-- A field found by its number, one field after the other.
-- Assumes nothing.
use mathlib.Core.Path.{◌≡◌, refl, sym, ap, ◌∙◌}
use mathlib.Core.List.{List, []}
use Prim.Native.Nat.{ℕ, zero, suc, ◌+◌, ◌-◌, ◌≤◌}
use native.Mathlib.Omega.{arith}
use lib.ListN.{length, get_or, take, drop}
use Rattle.reading.specs.Fields.{up_to, split}
use Rattle.reading.proofs.Parts.{part-first, to-fits, more_parts, last-part}

at-empty : (k : ℕ) → get_or {A = List ℕ} [] k [] ≡ []
at-empty zero = refl
at-empty (suc k) = refl

module _ (s : List ℕ) (from to sep : ℕ) (l : from ≤ length s) (e : to ≡ from + up_to sep (drop from s)) where
  first_part : get_or (split sep (drop from s)) 0 [] ≡ take (to - from) (drop from s)
  first_part = ap (λ (ps : List (List ℕ)). get_or ps 0 []) (part-first s from to sep e)

  pub next_field : (left more : ℕ) (w : List ℕ) → left ≡ suc more → (to ≡ length s → ⊥) → get_or (split sep (drop from s)) left [] ≡ w
      → get_or (split sep (drop (to + 1) s)) more [] ≡ w
  next_field left more w p n h = rw (p, more_parts s from to sep e (omega (arith, to-fits s from to sep e l))) at h

  pub no_field : (left more : ℕ) (w : List ℕ) → left ≡ suc more → to ≡ length s → get_or (split sep (drop from s)) left [] ≡ w
      → take (length s - to) (drop to s) ≡ w
  no_field left more w p n h =
      let z : length s - to ≡ 0 = omega arith in
      let t : take (length s - to) (drop to s) ≡ [] = rw z refl in
      t ∙ sym (at-empty more) ∙ (rw (p, last-part s from to sep e (omega arith) l) at h)

  pub this-field : (left : ℕ) (w : List ℕ) → left ≡ 0 → get_or (split sep (drop from s)) left [] ≡ w → take (to - from) (drop from s) ≡ w
  this-field left w n h = sym first_part ∙ (rw n at h)
