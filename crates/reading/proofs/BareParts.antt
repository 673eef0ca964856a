-- The parts of a bare text are the parts of the text, each of them bare: a separator is an edge and no digit, so that no zero that leads
-- stands across it. By induction on the text. Assumes nothing.
use mathlib.Core.Path.{◌≡◌, refl, sym, ap, ◌∙◌}
use mathlib.Core.Bool.{Bool, true, false, cond}
use mathlib.Core.List.{List, [], ◌∷◌}
use Prim.Native.Nat.{ℕ, zero, suc}
use native.Mathlib.Omega.{arith}
use borrow.Author.Tests.{eqb-true}
use lib.Dec.{eqb}
use lib.ListN.{length, get_or, take}
use Rattle.reading.specs.Numbers.{is_digit}
use Rattle.reading.specs.Fields.{split, push, up_to}
use Rattle.reading.proofs.Parts.{split-first}
use Rattle.reading.proofs.Bare.{leads, bare, leads-zero}

-- the first part behind x, each other behind its separator
unfoldable pub bare_parts : ℕ → ℕ → List (List ℕ) → List (List ℕ)
bare_parts sep x [] = []
bare_parts sep x (f ∷ fs) = bare x f ∷ bare_parts sep sep fs

-- a zero leads in the first part of a text where it leads in the text
leads-first : (sep x b : ℕ) (s : List ℕ) → is_digit sep ≡ false → leads x b (take (up_to sep s) s) ≡ leads x b s
unfolding leads up_to
leads-first sep x b [] h = refl
leads-first sep x b (d ∷ s) h = go (eqb d sep) refl
  where
    go : (t : Bool) → eqb d sep ≡ t → leads x b (take (cond t 0 (suc (up_to sep s))) (d ∷ s)) ≡ leads x b (d ∷ s)
    go true e = rw (eqb-true d sep e, h) refl
    go false e = refl

-- what leads is no separator
no-separator : (sep x b : ℕ) (s : List ℕ) → is_digit sep ≡ false → leads x b s ≡ true → eqb b sep ≡ true → ⊥
no-separator sep x b s h e q =
    let d : is_digit sep ≡ true = rw (sym (eqb-true b sep q) ∙ leads-zero x b s e) refl in
    absurd (let z : ◌≡◌ {A = ℕ} 0 1 = cc in omega arith)

pub split_bare : (sep : ℕ) → is_digit sep ≡ false → (s : List ℕ) (x : ℕ) → split sep (bare x s) ≡ bare_parts sep x (split sep s)
unfolding split bare bare_parts
split_bare sep h [] x = refl
split_bare sep h (b ∷ s) x = go (split_bare sep h s) (leads x b s) refl (eqb b sep) refl
  where
    go : ((x : ℕ) → split sep (bare x s) ≡ bare_parts sep x (split sep s)) → (t : Bool) → leads x b s ≡ t → (u : Bool) → eqb b sep ≡ u
        → split sep (cond t (bare x s) (b ∷ bare b s)) ≡ bare_parts sep x (cond u ([] ∷ split sep s) (push b (split sep s)))
    go ih true e true q = absurd (no-separator sep x b s h e q)
    go ih true e false q = ih x ∙ rw (split-first sep s, leads-first sep x b s h, e) refl
    go ih false e true q = rw q (ap (λ (ps : List (List ℕ)). [] ∷ ps) (ih b ∙ ap (λ (y : ℕ). bare_parts sep y (split sep s)) (eqb-true b sep q)))
    go ih false e false q = rw (q, ih b, split-first sep s, leads-first sep x b s h, e) refl

-- ---- a part by its number

pub parts-length : (sep x : ℕ) (fs : List (List ℕ)) → length (bare_parts sep x fs) ≡ length fs
unfolding bare_parts
parts-length sep x [] = refl
parts-length sep x (f ∷ fs) = ap suc (parts-length sep sep fs)

pub part-first : (sep x : ℕ) (fs : List (List ℕ)) → get_or (bare_parts sep x fs) 0 [] ≡ bare x (get_or fs 0 [])
unfolding bare_parts bare
part-first sep x [] = refl
part-first sep x (f ∷ fs) = refl

pub part-later : (sep x k : ℕ) (fs : List (List ℕ)) → get_or (bare_parts sep x fs) (suc k) [] ≡ bare sep (get_or fs (suc k) [])
unfolding bare_parts bare
part-later sep x k [] = refl
part-later sep x zero (f ∷ fs) = part-first sep sep fs
part-later sep x (suc k) (f ∷ fs) = part-later sep sep k fs
