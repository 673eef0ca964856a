-- Places and stretches of a list that was mapped: map_at, map-take, map-slice, map_same, by induction over the list; and a slice as a stretch.
-- Assumes nothing.
use mathlib.Core.List.{List, [], map, ◌∷◌}
use mathlib.Core.Path.{ap, refl, ◌∙◌, ◌≡◌}
use Prim.Native.Nat.{suc, zero, ℕ, ◌<◌, ◌≤◌}
use native.Mathlib.Nat.{le_of_suc-le-suc, not-suc-le-zero}
use native.Mathlib.Omega.{arith}
use lib.ListN.{drop, get_or, length, take}
use lib.Seq.{slice}
use Rattle.order.specs.Graph.{Nodes}
use Rattle.rules.specs.Tables.{stretch}
use Rattle.words.proofs.PartLaws.{drop-take-le}

module _ (f : ℕ → ℕ) where
  pub map_at : (l : List ℕ) (k : ℕ) → k < length l → get_or (map f l) k 0 ≡ f (get_or l k 0)
  map_at [] k h = absurd (not-suc-le-zero h)
  map_at (x ∷ l) zero h = refl
  map_at (x ∷ l) (suc k) h = map_at l k (le_of_suc-le-suc h)

  pub map-take : (k : ℕ) (l : List ℕ) → map f (take k l) ≡ take k (map f l)
  map-take zero l = refl
  map-take (suc k) [] = refl
  map-take (suc k) (x ∷ l) = ap (λ (t : List ℕ). f x ∷ t) (map-take k l)

  map-drop : (k : ℕ) (l : List ℕ) → map f (drop k l) ≡ drop k (map f l)
  map-drop zero l = refl
  map-drop (suc k) [] = refl
  map-drop (suc k) (x ∷ l) = map-drop k l

  pub map-slice : (a b : ℕ) (l : List ℕ) → map f (slice a b l) ≡ slice a b (map f l)
  map-slice a b l = map-drop a (take b l) ∙ ap (drop a) (map-take b l)

pub slice-stretch : (l : List ℕ) (a b : ℕ) → a ≤ b → slice a b l ≡ stretch l a b
slice-stretch l a b h = drop-take-le a b l h

-- two functions that are alike on nodes
pub map_same : (n : ℕ) (f g : ℕ → ℕ) (l : List ℕ) → Nodes n l → ((k : ℕ) → k < n → f k ≡ g k) → map f l ≡ map g l
map_same n f g [] ns h = refl
map_same n f g (x ∷ l) ns h =
    let tail : map f l ≡ map g l = map_same n f g l (λ k q. ns (suc k) (omega arith)) h in
    rw (h x (ns 0 (omega arith)), tail) refl
