-- The parts of a text one after the other: the first ends before the first separator, and the others are the parts of what follows it.
-- By induction on the text. Assumes nothing.
use mathlib.Core.Path.{◌≡◌, refl, ap, ◌∙◌}
use mathlib.Core.Bool.{Bool, true, false, cond}
use mathlib.Core.List.{List, [], ◌∷◌}
use Prim.Native.Nat.{ℕ, suc, ◌+◌, ◌-◌, ◌<◌, ◌≤◌}
use native.Mathlib.Numerals.{add-one}
use native.Mathlib.Omega.{arith}
use borrow.Author.Tests.{eq-eqb, ne_eqb}
use lib.Dec.{eqb}
use lib.ListN.{length, get_or, take, drop, length-drop, drop_of_length-le}
use lib.Seq.{drop-cons, drop-drop}
use Rattle.reading.specs.Fields.{up_to, split, push}

-- ---- where a part ends

pub ends-here : (s : List ℕ) (from i sep : ℕ) → i < length s → get_or s i 0 ≡ sep → i + up_to sep (drop i s) ≡ from + up_to sep (drop from s)
    → i ≡ from + up_to sep (drop from s)
unfolding up_to
ends-here s from i sep l h e = omega (arith, none)
  where
    none : up_to sep (drop i s) ≡ 0
    none = rw (drop-cons s i 0 l) (rw (eq-eqb _ _ h) refl)

pub ends-later : (s : List ℕ) (from i sep : ℕ) → i < length s → (get_or s i 0 ≡ sep → ⊥) → i + up_to sep (drop i s) ≡ from + up_to sep (drop from s)
    → (i + 1) + up_to sep (drop (i + 1) s) ≡ from + up_to sep (drop from s)
unfolding up_to
ends-later s from i sep l h e = omega (arith, step)
  where
    step : up_to sep (drop i s) ≡ suc (up_to sep (drop (i + 1) s))
    step = rw (drop-cons s i 0 l, add-one) (rw (ne_eqb _ _ h) refl)

pub ends_last : (s : List ℕ) (from i sep : ℕ) → length s ≤ i → i + up_to sep (drop i s) ≡ from + up_to sep (drop from s) → i ≡ from + up_to sep (drop from s)
unfolding up_to
ends_last s from i sep l e = omega (arith, none)
  where
    none : up_to sep (drop i s) ≡ 0
    none = rw (drop_of_length-le s l) refl

pub up_to-le : (sep : ℕ) (s : List ℕ) → up_to sep s ≤ length s
unfolding up_to
up_to-le sep [] = omega arith
up_to-le sep (b ∷ s) = go (up_to-le sep s) (eqb b sep)
  where
    go : up_to sep s ≤ length s → (t : Bool) → cond t 0 (suc (up_to sep s)) ≤ suc (length s)
    go ih true = omega arith
    go ih false = omega arith

-- ---- the parts

-- what comes after the first part
unfoldable pub later : ℕ → List ℕ → List (List ℕ)
later sep [] = []
later sep (b ∷ s) = cond (eqb b sep) (split sep s) (later sep s)

pub split-first : (sep : ℕ) (s : List ℕ) → split sep s ≡ take (up_to sep s) s ∷ later sep s
unfolding split up_to later
split-first sep [] = refl
split-first sep (b ∷ s) = go (split-first sep s) (eqb b sep)
  where
    go : split sep s ≡ take (up_to sep s) s ∷ later sep s → (t : Bool)
        → cond t ([] ∷ split sep s) (push b (split sep s)) ≡ take (cond t 0 (suc (up_to sep s))) (b ∷ s) ∷ cond t (split sep s) (later sep s)
    go ih true = refl
    go ih false = rw ih

pub later-some : (sep : ℕ) (s : List ℕ) → up_to sep s < length s → later sep s ≡ split sep (drop (suc (up_to sep s)) s)
unfolding up_to later
later-some sep [] l = absurd (omega arith)
later-some sep (b ∷ s) l = go (later-some sep s) (eqb b sep) l
  where
    go : (up_to sep s < length s → later sep s ≡ split sep (drop (suc (up_to sep s)) s)) → (t : Bool) → cond t 0 (suc (up_to sep s)) < suc (length s)
        → cond t (split sep s) (later sep s) ≡ split sep (drop (cond t 0 (suc (up_to sep s))) s)
    go ih true l = refl
    go ih false l = ih (omega arith)

pub later-none : (sep : ℕ) (s : List ℕ) → length s ≤ up_to sep s → later sep s ≡ []
unfolding up_to later
later-none sep [] l = refl
later-none sep (b ∷ s) l = go (later-none sep s) (eqb b sep) l
  where
    go : (length s ≤ up_to sep s → later sep s ≡ []) → (t : Bool) → suc (length s) ≤ cond t 0 (suc (up_to sep s)) → cond t (split sep s) (later sep s) ≡ []
    go ih true l = absurd (omega arith)
    go ih false l = ih (omega arith)

-- ---- the parts from a place on, by where the first of them ends

module _ (s : List ℕ) (from to sep : ℕ) (e : to ≡ from + up_to sep (drop from s)) where
  pub part-first : split sep (drop from s) ≡ take (to - from) (drop from s) ∷ later sep (drop from s)
  part-first =
      let n : up_to sep (drop from s) ≡ to - from = omega arith in
      split-first sep (drop from s) ∙ ap (λ (n : ℕ). take n (drop from s) ∷ later sep (drop from s)) n

  pub to-fits : from ≤ length s → to ≤ length s
  to-fits l = omega (arith, up_to-le sep (drop from s), length-drop from s)

  pub more_parts : to < length s → split sep (drop from s) ≡ take (to - from) (drop from s) ∷ split sep (drop (to + 1) s)
  more_parts l =
      let n : from + suc (up_to sep (drop from s)) ≡ to + 1 = omega arith in
      part-first
      ∙ ap (λ (ps : List (List ℕ)). take (to - from) (drop from s) ∷ ps)
      (later-some sep (drop from s) (omega (arith, length-drop from s))
      ∙ ap (split sep) (drop-drop (suc (up_to sep (drop from s))) from s ∙ ap (λ (n : ℕ). drop n s) n))

  pub last-part : length s ≤ to → from ≤ length s → split sep (drop from s) ≡ take (to - from) (drop from s) ∷ []
  last-part l k =
      part-first
      ∙ ap (λ (ps : List (List ℕ)). take (to - from) (drop from s) ∷ ps) (later-none sep (drop from s) (omega (arith, length-drop from s)))

-- room for one part more
pub roomy : (room n : ℕ) → n < room → room - n ≡ suc (room - (n + 1))
roomy room n h = omega arith
