-- `answers::kinds::kind_of` meets its contract: the table's rule is one test, which antt computes at each of the 64 entries.
use borrow.Author.Rules.{rules}
use borrow.Author.Tests.{le-leb, lt-leb}
use mathlib.Core.Path.{◌≡◌}
use mathlib.Core.Bool.{Bool}
use mathlib.Core.List.{List, [], ◌∷◌}
use Prim.Native.Nat.{ℕ, ◌<◌}
use lib.Dec.{T, eqb, eqb→eq}
use lib.ListN.{get_or}
use Rattle.answers.specs.declared.kinds.Kind.{Kind}
use Rattle.answers.specs.Kinds.{family_of, values_carried, kind_of}
use Rattle.answers.proofs.Table.{both, both_left, both_right, at}
use Rattle.answers.proofs.kinds.kind_of.Goals as goal

abbrev kind : ℕ → ℕ → Kind
kind f v = record { family = f; values = v }

table : List Kind
table =
    kind 0 0 ∷ kind 1 0 ∷ kind 1 0 ∷ kind 2 2 ∷ kind 2 2 ∷ kind 2 2 ∷ kind 2 1 ∷ kind 2 1 ∷ kind 2 1 ∷ kind 2 1 ∷ kind 2 2 ∷ kind 2 2 ∷ kind 2 3 ∷ kind 2
    2 ∷ kind 2 3 ∷ kind 2 2 ∷ kind 2 1 ∷ kind 2 1 ∷ kind 2 4 ∷ kind 2 1 ∷ kind 2 2 ∷ kind 2 2 ∷ kind 2 2 ∷ kind 2 1 ∷ kind 2 2 ∷ kind 2 2 ∷ kind 2 4 ∷
    kind 2 2 ∷ kind 2 2 ∷ kind 2 0 ∷ kind 2 1 ∷ kind 2 1 ∷ kind 2 1 ∷ kind 2 0 ∷ kind 2 3 ∷ kind 2 2 ∷ kind 2 2 ∷ kind 0 0 ∷ kind 0 0 ∷ kind 0 0 ∷ kind 3
    2 ∷ kind 3 2 ∷ kind 3 1 ∷ kind 0 0 ∷ kind 0 0 ∷ kind 0 0 ∷ kind 0 0 ∷ kind 0 0 ∷ kind 0 0 ∷ kind 0 0 ∷ kind 4 1 ∷ kind 4 1 ∷ kind 0 0 ∷ kind 0 0 ∷
    kind 0 0 ∷ kind 0 0 ∷ kind 0 0 ∷ kind 0 0 ∷ kind 0 0 ∷ kind 0 0 ∷ kind 5 2 ∷ kind 5 1 ∷ kind 5 1 ∷ kind 5 1 ∷ []

-- the entry x is the rule's at k
right : ℕ → Kind → Bool
right k x = both (eqb x.family (family_of k)) (eqb x.values (values_carried k))

same : (k : ℕ) (x : Kind) → T (right k x) → x ≡ kind (family_of k) (values_carried k)
unfolding right
same k x t =
    let f : x.family ≡ family_of k = eqb→eq x.family (family_of k) (both_left (eqb x.family (family_of k)) (eqb x.values (values_carried k)) t) in
    let v : x.values ≡ values_carried k = eqb→eq x.values (values_carried k) (both_right (eqb x.family (family_of k)) (eqb x.values (values_carried k)) t) in
    λ i. record { family = f i; values = v i }

entry : (d : Kind) (k : ℕ) → k < 64 → get_or table k d ≡ kind_of k
unfolding table right
entry d k h = rw (lt-leb 64 k h) (same k (get_or table k d) (at right d table tt k h))

pub returns-then-number-ge64 : goal.returns-then-number-ge64
returns-then-number-ge64 c = simp (le-leb _ _ c.if-number-ge64.true)

pub returns : goal.returns
unfolding table
returns c = entry _ c.args.number (search rules)
