-- The definitions run: id 9 has the parents 2 and 4, id 2 has the child 9.
-- Each is one computation. Assumes nothing.
use Prim.Native.Nat.{ℕ}
use mathlib.Core.Bool.{true}
use mathlib.Core.Path.{◌≡◌, refl}
use mathlib.Core.List.{List, [], ◌∷◌}
use Rattle.lists.specs.Sort.{le3}
use Rattle.types.specs.declared.records.Side.TheVariants.{Parents, Children}
use Rattle.rules.specs.Tables.{row_width}
use Rattle.lookups.specs.PairSearch.{has_pair}
use Rattle.lookups.specs.Sides.{sides_from, pair_index}

table : List ℕ
table = 9 ∷ 0 ∷ 65535 ∷ 1 ∷ 5 ∷ 0 ∷ 0 ∷ 0 ∷ 0 ∷ 2 ∷ 0 ∷ 2 ∷ 0 ∷ 65535 ∷ 2 ∷ 0 ∷ 1 ∷ 5 ∷ 0 ∷ 0 ∷ 0 ∷ 1 ∷ []

edges : List ℕ
edges = 4 ∷ 2 ∷ 9 ∷ []

parents-case : pair_index Parents row_width table edges 2 ≡ (9, 2, 0) ∷ (9, 4, 0) ∷ []
unfolding pair_index table edges le3
parents-case = refl

children-case : pair_index Children row_width table edges 2 ≡ (2, 9, 0) ∷ []
unfolding pair_index table edges le3
children-case = refl

found-case : has_pair 2 9 (pair_index Children row_width table edges 2) ≡ true
unfolding pair_index table edges le3
found-case = refl

count-case : sides_from Parents row_width table 2 0 ≡ 2
unfolding table
count-case = refl
