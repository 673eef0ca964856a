-- A list counted item by item: what is counted, and what the rest of the field says, is what the whole field says.
-- Assumes nothing.
use Rattle.std.specs.Prelude.{Option, Some, None}
use mathlib.Core.Path.{◌≡◌, refl, sym, ap, ◌∙◌}
use mathlib.Core.List.{List}
use Prim.Native.Nat.{ℕ, suc, ◌+◌, ◌-◌, ◌<◌, ◌≤◌}
use native.Mathlib.Omega.{arith}
use lib.ListN.{length, take, drop}
use Rattle.reading.specs.Numbers.{number_of}
use Rattle.reading.specs.Fields.{up_to, split}
use Rattle.reading.specs.Lists.{before, numbers_of, listed}
use Rattle.reading.proofs.Parts.{part-first, to-fits, more_parts, last-part, roomy}

-- a list told by its length, with n numbers before it
abbrev pub listed_from : ℕ → Option (List ℕ) → Option ℕ
listed_from n None = None
listed_from n (Some vs) = Some (n + length vs)

from-none : (o : Option (List ℕ)) → listed_from 0 o ≡ listed o
from-none None = refl
from-none (Some vs) = let z : 0 + length vs ≡ length vs = omega arith in ap Some z

pub begun : (room : ℕ) (is : List (List ℕ)) → listed_from 0 (numbers_of (room - 0) is) ≡ listed (numbers_of room is)
begun room is = let z : room - 0 ≡ room = omega arith in rw z (from-none (numbers_of room is))

one_more : (n v : ℕ) (o : Option (List ℕ)) → listed_from n (before (Some v) o) ≡ listed_from (n + 1) o
one_more n v None = refl
one_more n v (Some vs) = let z : n + suc (length vs) ≡ (n + 1) + length vs = omega arith in ap Some z

module _ (s : List ℕ) (from to sep : ℕ) (l : from ≤ length s) (e : to ≡ from + up_to sep (drop from s)) (r : Option ℕ)
    (k : r ≡ number_of (take (to - from) (drop from s))) (room n : ℕ) (h : n < room) (w : Option ℕ)
    (i : listed_from n (numbers_of (room - n) (split sep (drop from s))) ≡ w) where
  pub bad-item : r ≡ None → None ≡ w
  unfolding numbers_of
  bad-item q = sym (rw (roomy room n h, part-first s from to sep e, ← k, q) refl) ∙ i

  pub last-item : (v : ℕ) → r ≡ Some v → to ≡ length s → Some (n + 1) ≡ w
  unfolding numbers_of
  last-item v q z = sym (rw (roomy room n h, last-part s from to sep e (omega arith) l, ← k, q) refl) ∙ i

  pub next-item : (v : ℕ) → r ≡ Some v → (to ≡ length s → ⊥) → listed_from (n + 1) (numbers_of (room - (n + 1)) (split sep (drop (to + 1) s))) ≡ w
  unfolding numbers_of
  next-item v q z =
      sym (rw (roomy room n h, more_parts s from to sep e (omega (arith, to-fits s from to sep e l)), ← k, q) (one_more n v (numbers_of (room - (n + 1)) (split sep (drop (to + 1) s))))) ∙ i

-- the room is used up, and an item is left
pub no_room : (s : List ℕ) (from sep room n : ℕ) (w : Option ℕ) → room ≤ n → listed_from n (numbers_of (room - n) (split sep (drop from s))) ≡ w → None ≡ w
unfolding numbers_of
no_room s from sep room n w h i = let z : room - n ≡ 0 = omega arith in sym (rw (z, part-first s from (from + up_to sep (drop from s)) sep refl) refl) ∙ i
