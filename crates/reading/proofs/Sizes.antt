-- A field says nothing, or it says something and is short; and how many bytes are kept of a line, by the fields of the line.
-- Assumes nothing.
use Rattle.std.specs.Prelude.{Option, Some, None}
use mathlib.Core.Path.{◌≡◌, refl, sym, ap, fun_ext, ◌∙◌}
use mathlib.Core.List.{List, [], ◌∷◌}
use Prim.Native.Nat.{ℕ, zero, suc, ◌+◌, ◌*◌, ◌≤◌}
use lib.ListN.{length, get_or}
use Rattle.types.specs.declared.records.Optional.{Optional}
use Rattle.types.specs.declared.records.OrderingMode.{OrderingMode}
use Rattle.reading.specs.Numbers.{number_of, code_of}
use Rattle.reading.specs.Fields.{fields_of, field, letter_of, option_of}
use Rattle.reading.specs.Lists.{list_of}
use Rattle.reading.specs.Lines.{mode_of}
use Rattle.reading.specs.Kept.{kept_line}
use Rattle.reading.proofs.Bare.{bare}
use Rattle.reading.proofs.NumberLengths.{number_short}
use Rattle.reading.proofs.FieldLengths.{mode-short, option-short, code-short, list-short, total, split-total}
use Rattle.reading.proofs.KeptReads.{kept-count, field-first, field-later}

-- ---- a field says something, and then it is short, or nothing

abbrev pub Size : List ℕ → ℕ
Size f = length (bare 32 f)

module _ {A : Type 0} (d : A) (f : List ℕ) where
  pub number-else : (F : Option ℕ → A) → F None ≡ d → ((v : ℕ) → Size f ≤ 20 → F (Some v) ≡ d) → F (number_of f) ≡ d
  number-else F z h = go (number_of f) refl
    where
      go : (n : Option ℕ) → number_of f ≡ n → F n ≡ d
      go None e = z
      go (Some v) e = h v (number_short 32 v f refl e)

  pub code-else : (F : Option ℕ → A) → F None ≡ d → ((v : ℕ) → Size f ≤ 21 → F (Some v) ≡ d) → F (code_of f) ≡ d
  code-else F z h = go (code_of f) refl
    where
      go : (n : Option ℕ) → code_of f ≡ n → F n ≡ d
      go None e = z
      go (Some v) e = h v (code-short 32 v f refl e)

  pub option-else : (F : Option Optional → A) → F None ≡ d → ((o : Optional) → Size f ≤ 20 → F (Some o) ≡ d) → F (option_of f) ≡ d
  option-else F z h = go (option_of f) refl
    where
      go : (n : Option Optional) → option_of f ≡ n → F n ≡ d
      go None e = z
      go (Some o) e = h o (option-short 32 o f refl e)

  pub mode-else : (F : Option OrderingMode → A) → F None ≡ d → ((m : OrderingMode) → Size f ≤ 1 → F (Some m) ≡ d) → F (mode_of (letter_of f)) ≡ d
  mode-else F z h = go (mode_of (letter_of f)) refl
    where
      go : (n : Option OrderingMode) → mode_of (letter_of f) ≡ n → F n ≡ d
      go None e = z
      go (Some m) e = h m (mode-short 32 m f e)

  pub list-else : (room : ℕ) (F : Option (List ℕ) → A) → F None ≡ d → ((vs : List ℕ) → Size f ≤ 21 * length vs + 1 → length vs ≤ room → F (Some vs) ≡ d) → F (list_of room f) ≡ d
  list-else room F z h = go (list_of room f) refl
    where
      go : (o : Option (List ℕ)) → list_of room f ≡ o → F o ≡ d
      go None e = z
      go (Some vs) e = h vs (list-short 32 room vs f refl e).0 (list-short 32 room vs f refl e).1

-- ---- the bytes of a line by its fields

-- with the separator behind each
unfoldable pub sum_to : ℕ → (ℕ → ℕ) → ℕ
sum_to zero g = 0
sum_to (suc n) g = suc (g 0) + sum_to n (λ k. g (suc k))

total-sum : (fs : List (List ℕ)) → total fs ≡ sum_to (length fs) (λ k. length (get_or fs k []))
unfolding total sum_to
total-sum [] = refl
total-sum (f ∷ fs) = ap (λ (n : ℕ). suc (length f) + n) (total-sum fs)

-- each field's bytes in a kept line
unfoldable pub size : List ℕ → ℕ → ℕ
size s zero = length (bare 0 (field s 0))
size s (suc k) = Size (field s (suc k))

size_is : (s : List ℕ) (k : ℕ) → length (field (kept_line s) k) ≡ size s k
unfolding size
size_is s zero = ap length (field-first s)
size_is s (suc k) = ap length (field-later s k)

pub letter-first : (s : List ℕ) → length (bare 0 (field s 0)) ≤ 1 → size s 0 ≤ 1
unfolding size
letter-first s h = h

pub kept-size : (s : List ℕ) (n : ℕ) → length (fields_of s) ≡ n → suc (length (kept_line s)) ≡ sum_to n (size s)
kept-size s n e =
    sym (split-total 32 (kept_line s)) ∙ total-sum (fields_of (kept_line s)) ∙ ap (λ (m : ℕ). sum_to m (λ k. length (field (kept_line s) k))) (kept-count s ∙ e)
    ∙ ap (sum_to n) (fun_ext (size_is s))
