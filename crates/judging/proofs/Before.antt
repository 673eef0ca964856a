-- The ids of the rows before row i, as a walk over the rows gathers them, and the flag that says whether the id of row i is among them.
-- Assumes nothing.
use Prim.Native.Nat.{ℕ, ◌+◌, ◌*◌, ◌<◌}
use mathlib.Core.Path.{◌≡◌, refl, sym, ap, ◌∙◌}
use mathlib.Core.Bool.{Bool, true, false, cond}
use mathlib.Core.List.{List, [], ◌∷◌, ◌++◌}
use native.Mathlib.Numerals.{add-one}
use native.Mathlib.Omega.{arith}
use lib.ListN.{length, get_or, take}
use lib.Seq.{take-suc}
use Rattle.lists.specs.Lists.{has}
use Rattle.words.specs.Table.{ids}
use Rattle.words.specs.Twins.{Twins}
use Rattle.words.proofs.TableLaws.{length_ids, ids_at}

flag_true : (t : Bool) → (◌≡◌ {A = ℕ} (cond t 1 0) 0 → ⊥) → t ≡ true
flag_true true h = refl
flag_true false h = absurd (h refl)

flag-false : (t : Bool) → ◌≡◌ {A = ℕ} (cond t 1 0) 0 → t ≡ false
flag-false true h = absurd (omega (arith, h))
flag-false false h = refl

module _ (t : List ℕ) (w n i : ℕ) (below : i < n) where
  in_ids : i < length (ids t w n)
  in_ids = rw (length_ids t w n) below

  pub ids_more : take i (ids t w n) ++ (get_or t (i * w) 0 ∷ []) ≡ take (i + 1) (ids t w n)
  ids_more = rw (add-one, take-suc (ids t w n) i 0 in_ids, ids_at t w n i below)

  module _ (flags : List ℕ) (told : Twins (ids t w n) flags) where
    pub flag-in : i < length flags
    flag-in = rw told.len in_ids

    flag_is : get_or flags i 0 ≡ cond (has (get_or t (i * w) 0) (take i (ids t w n))) 1 0
    flag_is = told.each i in_ids ∙ ap (λ (x : ℕ). cond (has x (take i (ids t w n))) 1 0) (ids_at t w n i below)

    pub flag-hit : (get_or flags i 0 ≡ 0 → ⊥) → has (get_or t (i * w) 0) (take i (ids t w n)) ≡ true
    flag-hit h = flag_true _ (λ e. h (flag_is ∙ e))

    pub flag-miss : get_or flags i 0 ≡ 0 → has (get_or t (i * w) 0) (take i (ids t w n)) ≡ false
    flag-miss h = flag-false _ (sym flag_is ∙ h)
