-- The order that is left: where the order is accepted, its list is the rule's, and it stands in the scratch where the order's part of it was lent.
-- Assumes nothing.
use Prim.Native.Nat.{ℕ, ◌+◌, ◌≤◌}
use native.Mathlib.Omega.{arith}
use mathlib.Core.Path.{◌≡◌, sym, ap, ◌∙◌}
use mathlib.Core.List.{List, ◌++◌}
use lib.ListN.{length, take, drop, length-drop}
use lib.Seq.{take-append-le, drop-append-le, drop-append-add}
use Rattle.words.specs.Part.{part}
use Rattle.answers.specs.Answer.{Judged, Accepted}
use Rattle.rules.specs.Order.{Ordered, in_order, too_deep, cyclic, ordered_rule, order_words}
use Rattle.ordered.specs.Left.{OrderLeft}

order-left : (depth : ℕ) (o : Ordered) (l : List ℕ) → ordered_rule depth o ≡ Accepted → OrderLeft o l → l ≡ order_words o
unfolding ordered_rule
order-left depth (in_order xs) l e left = left
order-left depth (too_deep d) l e left = let z : ◌≡◌ {A = ℕ} 0 1 = cc in absurd (omega arith)
order-left depth cyclic l e left = let z : ◌≡◌ {A = ℕ} 0 1 = cc in absurd (omega arith)

-- words of the first of two parts, and of the second
part-first : (a b : List ℕ) (k m : ℕ) → k + m ≤ length a → part (a ++ b) k m ≡ part a k m
part-first a b k m h = ap (take m) (drop-append-le k a b (omega arith)) ∙ take-append-le m (drop k a) b (rw length-drop (omega arith))

pub part-second : (a b : List ℕ) (s k m : ℕ) → length a ≡ s → part (a ++ b) (s + k) m ≡ part b k m
part-second a b s k m size = ap (λ (t : ℕ). take m (drop (t + k) (a ++ b))) (sym size) ∙ ap (take m) (drop-append-add a b k)

pub order-stays : (depth : ℕ) (o : Ordered) (a b : List ℕ) (k m : ℕ) (j : Judged) → k + m ≤ length a → j ≡ ordered_rule depth o → j ≡ Accepted → OrderLeft o (part a k m)
    → part (a ++ b) k m ≡ order_words o
order-stays depth o a b k m j fits said told left = part-first a b k m fits ∙ order-left depth o (part a k m) (sym said ∙ told) left
