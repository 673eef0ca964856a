-- What changes nothing in an answer: an id more that is no ancestor (history-other, completed-other), and order and repeats (same-members), in either list.
-- Both from `demand-three`, which asks only that the lists tell the same of each ancestor. Assumes nothing.
use Prim.Native.Nat.{ℕ}
use mathlib.Core.Path.{◌≡◌, refl, sym}
use mathlib.Core.Bool.{Bool, true, false}
use mathlib.Core.List.{List, ◌∷◌}
use Rattle.lists.specs.Lists.{has}
use Rattle.types.specs.declared.records.OrderingMode.{OrderingMode}
use Rattle.rules.specs.Ordering.{Lent}
use Rattle.rules.specs.Reading.{Grows}
use Rattle.rules.proofs.Answers.{has_other}
use Rattle.demand.specs.Demand.{HeldTables, Left, Room, asked, AncestorIn, Same}
use Rattle.demand.proofs.DemandThree.{demand-three}

has_same : (x : ℕ) (l l' : List ℕ) → Grows l l' → Grows l' l → has x l ≡ has x l'
has_same x l l' up down = by (has x l) (has x l') (up x) (down x)
  where
    by : (p q : Bool) → (p ≡ true → q ≡ true) → (q ≡ true → p ≡ true) → p ≡ q
    by true q i k = sym (i refl)
    by false true i k = k refl
    by false false i k = refl

module _ (T : HeldTables) (left : Left T) (mode : OrderingMode) (c : ℕ) (history completed : List ℕ) (lent : Lent) (room : Room T lent) where
  pub history-other : (y : ℕ) → (AncestorIn T y c → ⊥) → Same (asked T mode (y ∷ history) c completed lent) (asked T mode history c completed lent)
  history-other y n = (demand-three T left).1 mode c (y ∷ history) history completed completed (λ x a. has_other x y history (λ e. n (rw e a))) (λ x a. refl) lent lent room room

  pub completed-other : (y : ℕ) → (AncestorIn T y c → ⊥) → Same (asked T mode history c (y ∷ completed) lent) (asked T mode history c completed lent)
  completed-other y n = (demand-three T left).1 mode c history history (y ∷ completed) completed (λ x a. refl) (λ x a. has_other x y completed (λ e. n (rw e a))) lent lent room room

  pub same-members : (history' completed' : List ℕ) → Grows history history' → Grows history' history → Grows completed completed' → Grows completed' completed
      → Same (asked T mode history c completed lent) (asked T mode history' c completed' lent)
  same-members history' completed' p p' q q' =
      (demand-three T left).1 mode c history history' completed completed' (λ x a. has_same x history history' p p') (λ x a. has_same x completed completed' q q') lent lent room room
