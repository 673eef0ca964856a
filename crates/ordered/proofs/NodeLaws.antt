-- What the rule book's order does to the node at a place, where the ids before it differ:
--     depth-at, taken_at, touched-at     its depth is read, it is taken, it is touched
--     first_some, first-none     the first that is ready
-- By induction over the list. Assumes nothing.
use mathlib.Core.Path.{◌≡◌, refl}
use mathlib.Core.Bool.{true, false}
use mathlib.Core.Option.{none, some}
use mathlib.Core.List.{List, [], ◌∷◌}
use Prim.Native.Nat.{ℕ, zero, suc, ◌<◌}
use native.Mathlib.Nat.{le_of_suc-le-suc}
use native.Mathlib.Omega.{arith}
use borrow.Author.Tests.{eq-eqb, ne_eqb}
use lib.ListN.{length, get_or, set}
use Rattle.rules.specs.Model.{Segment}
use Rattle.rules.specs.Order.{Node, node_of, first_ready, taken, depth_of, touched_node, touched}

-- the segment and the node past the end of a list
abbrev pub bare : Segment
bare = record { head = record { id = 0; start = 0; end = 0; state = 0; created = 0; sealed = none; legacy = none }; parents = []; children = [] }

abbrev pub blank : Node
blank = node_of bare

abbrev pub idle : Node → Node
idle x = record { id = x.id; waits = x.waits; depth = x.depth; ready = false; children = x.children }

-- x is the id at place i, and at none before it
pub record IdAt (x : ℕ) (nodes : List Node) (i : ℕ) : Type 0 where
  pub inside : i < length nodes
  pub here : (get_or nodes i blank).id ≡ x
  pub before : (j : ℕ) → j < i → (get_or nodes j blank).id ≡ x → ⊥

further : (x : ℕ) (y : Node) (ys : List Node) (i : ℕ) → IdAt x (y ∷ ys) (suc i) → IdAt x ys i
further x y ys i a = record { inside = le_of_suc-le-suc a.inside; here = a.here; before = λ j q. a.before (suc j) (omega arith) }

pub depth-at : (x : ℕ) (nodes : List Node) (i : ℕ) → IdAt x nodes i → depth_of x nodes ≡ (get_or nodes i blank).depth
unfolding depth_of
depth-at x [] i a = absurd (omega (arith, a.inside))
depth-at x (y ∷ ys) zero a = rw (eq-eqb y.id x a.here) refl
depth-at x (y ∷ ys) (suc i) a = rw (ne_eqb y.id x (a.before 0 (omega arith))) (depth-at x ys i (further x y ys i a))

pub taken_at : (x : ℕ) (nodes : List Node) (i : ℕ) → IdAt x nodes i → taken x nodes ≡ set nodes i (idle (get_or nodes i blank))
unfolding taken
taken_at x [] i a = absurd (omega (arith, a.inside))
taken_at x (y ∷ ys) zero a = rw (eq-eqb y.id x a.here) refl
taken_at x (y ∷ ys) (suc i) a = rw (ne_eqb y.id x (a.before 0 (omega arith)), taken_at x ys i (further x y ys i a)) refl

pub touched-at : (x e : ℕ) (nodes : List Node) (i : ℕ) → IdAt x nodes i → touched x e nodes ≡ set nodes i (touched_node e (get_or nodes i blank))
unfolding touched
touched-at x e [] i a = absurd (omega (arith, a.inside))
touched-at x e (y ∷ ys) zero a = rw (eq-eqb y.id x a.here) refl
touched-at x e (y ∷ ys) (suc i) a = rw (ne_eqb y.id x (a.before 0 (omega arith)), touched-at x e ys i (further x y ys i a)) refl

pub first-none : (nodes : List Node) → ((j : ℕ) → j < length nodes → (get_or nodes j blank).ready ≡ false) → first_ready nodes ≡ none
unfolding first_ready
first-none [] h = refl
first-none (y ∷ ys) h = rw (h 0 (omega arith)) (first-none ys (λ j q. h (suc j) (omega arith)))

pub first_some : (nodes : List Node) (i : ℕ) → i < length nodes → (get_or nodes i blank).ready ≡ true → ((j : ℕ) → j < i → (get_or nodes j blank).ready ≡ false) → first_ready nodes ≡ some (get_or nodes i blank)
unfolding first_ready
first_some [] i l e h = absurd (omega arith)
first_some (y ∷ ys) zero l e h = rw e refl
first_some (y ∷ ys) (suc i) l e h = rw (h 0 (omega arith)) (first_some ys i (le_of_suc-le-suc l) e (λ j q. h (suc j) (omega arith)))
