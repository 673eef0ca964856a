-- Comparisons of whole numbers that may be too large for a machine word, each by one of numbers that are not: an area is divided by the width
-- of its rows, and what is needed is taken from what is left. Assumes nothing.
use Prim.Native.Nat.{ℕ, ◌+◌, ◌-◌, ◌*◌, ◌/◌, ◌≤◌, ◌<◌}
use mathlib.Core.Path.{◌≡◌, sym, refl, ◌∙◌}
use mathlib.Core.Bool.{Bool, true, false, ◌||◌}
use mathlib.Core.Logic.{⊎_elim}
use native.Mathlib.Omega.{arith}
use native.Mathlib.Nat.{div-lt_iff_lt-mul, le-div_iff_mul-le, add-zero}
use borrow.Author.Tests.{lt-ltb, le-ltb, ltb-true, ltb-false, leb-true, leb-false}
use lib.Dec.{ltb, leb}
use Rattle.lists.proofs.Cases.{lt-or-le}

-- the first of several tests, which holds or not
pub lt-hit : (a b : ℕ) (rest : Bool) → a < b → true ≡ ltb a b || rest
lt-hit a b rest h = rw (lt-ltb a b h)

pub lt-miss : (a b : ℕ) (v rest : Bool) → b ≤ a → v ≡ rest → v ≡ ltb a b || rest
lt-miss a b v rest h e = rw (le-ltb a b h, e)

-- two comparisons that hold together
lt_same : (a b c d : ℕ) → (a < b → c < d) → (c < d → a < b) → ltb a b ≡ ltb c d
lt_same a b c d f g = by (ltb a b) refl
  where
    by : (t : Bool) → ltb a b ≡ t → ltb a b ≡ ltb c d
    by true e = e ∙ sym (lt-ltb c d (f (ltb-true a b e)))
    by false e = e ∙ sym (le-ltb c d (⊎_elim (λ h. absurd (omega (arith, ltb-false a b e, g h))) (λ h. h) (lt-or-le c d)))

-- ---- an area and what it is to hold: n rows of a width

pub rows_short : (area width n : ℕ) → 0 < width → area / width < n → area < n * width
rows_short area width n h q = (div-lt_iff_lt-mul h).0 q

pub rows_fit : (area width n : ℕ) → 0 < width → n ≤ area / width → n * width ≤ area
rows_fit area width n h q = (le-div_iff_mul-le h).0 q

pub rows-hit : (area width n : ℕ) (rest : Bool) → 0 < width → area / width < n → true ≡ ltb area (n * width) || rest
rows-hit area width n rest h q = lt-hit area (n * width) rest (rows_short area width n h q)

pub rows-miss : (area width n : ℕ) (v rest : Bool) → 0 < width → n ≤ area / width → v ≡ rest → v ≡ ltb area (n * width) || rest
rows-miss area width n v rest h q e = lt-miss area (n * width) v rest (rows_fit area width n h q) e

-- ---- two words for each of k things

pub pairs-hit : (area k : ℕ) (rest : Bool) → area / 2 < k → true ≡ ltb area (2 * k) || rest
pairs-hit area k rest q = lt-hit area (2 * k) rest (omega arith)

pub pairs-miss : (area k : ℕ) (v rest : Bool) → k ≤ area / 2 → v ≡ rest → v ≡ ltb area (2 * k) || rest
pairs-miss area k v rest q e = lt-miss area (2 * k) v rest (omega arith) e

pub pairs-same : (area k : ℕ) → ltb (area / 2) k ≡ ltb area (2 * k)
pairs-same area k = lt_same (area / 2) k area (2 * k) (λ h. omega arith) (λ h. omega arith)

-- ---- two counts, which are taken one after the other from what is left

pub over_first : (left a b : ℕ) → left < a → true ≡ ltb left (a + b)
over_first left a b h = sym (lt-ltb left (a + b) (omega arith))

pub over_second : (left a b : ℕ) → a ≤ left → ltb (left - a) b ≡ ltb left (a + b)
over_second left a b h = lt_same (left - a) b left (a + b) (λ q. omega arith) (λ q. omega arith)

-- x is what such a test said
module _ (left a b : ℕ) (x : Bool) (said : x ≡ ltb left (a + b)) (told : x ≡ false) where
  pub under : a + b ≤ left
  under = ltb-false left (a + b) (sym said ∙ told)

-- ---- the work area: 32 words for each of a, b, c and d things, which are taken one after the other from what is left

module _ (work a b c d : ℕ) where
  pub work_first : work / 32 < a → true ≡ ltb work (32 * (a + b + c + d))
  work_first h = sym (lt-ltb work (32 * (a + b + c + d)) (omega arith))

  pub work_second : work / 32 - a < b → true ≡ ltb work (32 * (a + b + c + d))
  work_second h = sym (lt-ltb work (32 * (a + b + c + d)) (omega arith))

  pub work_third : work / 32 - a - b < c → true ≡ ltb work (32 * (a + b + c + d))
  work_third h = sym (lt-ltb work (32 * (a + b + c + d)) (omega arith))

  pub work_fourth : a ≤ work / 32 → b ≤ work / 32 - a → c ≤ work / 32 - a - b → ltb (work / 32 - a - b - c) d ≡ ltb work (32 * (a + b + c + d))
  work_fourth p q r = lt_same (work / 32 - a - b - c) d work (32 * (a + b + c + d)) (λ h. omega arith) (λ h. omega arith)

-- fewer things
pub work_three : (work a b c : ℕ) (x : Bool) → x ≡ ltb work (32 * (a + b + c + 0)) → x ≡ ltb work (32 * (a + b + c))
work_three work a b c x e = rw (add-zero (a + b + c)) at e

pub work_two : (work a b : ℕ) (x : Bool) → x ≡ ltb work (32 * (a + b + 0 + 0)) → x ≡ ltb work (32 * (a + b))
work_two work a b x e = rw (add-zero (a + b)) at (work_three work a b 0 x e)

-- ---- one word more than g

pub more-hit : (area g : ℕ) (rest : Bool) → area ≤ g → true ≡ ltb area (g + 1) || rest
more-hit area g rest h = lt-hit area (g + 1) rest (omega arith)

pub more-miss : (area g : ℕ) (v rest : Bool) → g < area → v ≡ rest → v ≡ ltb area (g + 1) || rest
more-miss area g v rest h e = lt-miss area (g + 1) v rest (omega arith) e

pub more_same : (area g : ℕ) → leb area g ≡ ltb area (g + 1)
more_same area g = by (leb area g) refl
  where
    by : (t : Bool) → leb area g ≡ t → leb area g ≡ ltb area (g + 1)
    by true e = e ∙ sym (lt-ltb area (g + 1) (omega (arith, leb-true area g e)))
    by false e = e ∙ sym (le-ltb area (g + 1) (omega (arith, leb-false area g e)))

pub ruleset compared = (lt-hit, lt-miss, rows-hit, rows-miss, pairs-hit, pairs-miss, pairs-same, more-hit, more-miss, more_same)

pub ruleset works = (work_first, work_second, work_third, work_fourth)
