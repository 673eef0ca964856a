-- The count of parent references read is at most the edge words, and so are the ancestors: over an ascending list each row's parents are counted
-- at most once. Assumes nothing.
use mathlib.Core.Path.{◌≡◌, refl, sym}
use mathlib.Core.Bool.{Bool, true, false, cond}
use mathlib.Core.List.{List, [], ◌∷◌}
use Prim.Native.Nat.{ℕ, ◌+◌, ◌≤◌, zero-le}
use native.Mathlib.Omega.{arith}
use borrow.Author.Tests.{ne_eqb}
use lib.Dec.{eqb}
use lib.ListN.{length, length-append}
use Rattle.lists.specs.Sets.{Ascending, total}
use Rattle.lists.proofs.SetLaws.{fits, add-longer, total-none, total-raised}
use Rattle.rules.specs.Model.{Segment}
use Rattle.rules.specs.Ancestors.{parents_of, references, edge_words, ancestors, family, references_read}
use Rattle.rules.proofs.Ancestry.{somebody, parent-referenced, ancestors-ascending, ancestors-sound, family-ascending}

pub total-fits : (S : List Segment) (l : List ℕ) → Ascending l → total (λ x. length (parents_of S x)) l ≤ edge_words S
unfolding parents_of edge_words
total-fits [] l a = omega (arith, total-none l)
total-fits (s ∷ S) l a =
    omega (
      arith,
      total-fits S l a,
      total-raised (λ x. length (cond (eqb s.head.id x) s.parents (parents_of S x))) (λ x. length (parents_of S x)) s.head.id (length s.parents) other itself l a,
    )
  where
    other : (x : ℕ) → (x ≡ s.head.id → ⊥) → length (cond (eqb s.head.id x) s.parents (parents_of S x)) ≡ length (parents_of S x)
    other x q = rw (ne_eqb s.head.id x (λ e. q (sym e))) refl

    either : (t : Bool) → length (cond t s.parents (parents_of S s.head.id)) ≤ length s.parents + length (parents_of S s.head.id)
    either true = omega arith
    either false = omega arith

    itself : length (cond (eqb s.head.id s.head.id) s.parents (parents_of S s.head.id)) ≤ length s.parents + length (parents_of S s.head.id)
    itself = either (eqb s.head.id s.head.id)

-- it never exceeds the edge words
pub count_fits : (S : List Segment) (c : ℕ) → references_read S c ≤ edge_words S
unfolding references_read
count_fits S c = total-fits S (family S c) (family-ascending S c)

-- ---- how long the lists are: no segment has more ancestors than the layout has edge words

references-fit : (S : List Segment) → length (references S) ≤ edge_words S
unfolding references edge_words
references-fit [] = zero-le
references-fit (s ∷ S) = omega (arith, references-fit S, length-append s.parents (references S))

pub ancestors-fit : (S : List Segment) (c : ℕ) → length (ancestors S c) ≤ edge_words S
ancestors-fit S c =
    omega (
      arith,
      references-fit S,
      fits (ancestors S c) (references S) (ancestors-ascending S c) (λ x h. let y = somebody S (ancestors-sound S x c h) in parent-referenced S y.0 x y.1),
    )

pub family-fits : (S : List Segment) (c : ℕ) → length (family S c) ≤ edge_words S + 1
unfolding family
family-fits S c = omega (arith, ancestors-fit S c, add-longer c (ancestors S c))
