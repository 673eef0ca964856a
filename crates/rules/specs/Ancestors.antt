-- Document 01: "Ancestors are all ids reached by one or more parent references, with a row or without." `Ancestor` says what they are,
-- `ancestors` computes them, for every table, also one that has loops or parents without a row.
-- Assumes nothing.
use Rattle.std.specs.Prelude.{cond, List, [], ◌∷◌, ◌++◌, ℕ, zero, suc, ◌+◌, eqb, length}
use Rattle.lists.specs.Lists.{◌∈◌}
use Rattle.lists.specs.Sets.{add_all, add, total}
use Rattle.rules.specs.Model.{Segment}

-- the parents of the row of this id; none where it has no row
unfoldable pub parents_of : List Segment → ℕ → List ℕ
parents_of [] x = []
parents_of (s ∷ S) x = cond (eqb s.head.id x) s.parents (parents_of S x)

unfoldable pub created_of : List Segment → ℕ → ℕ
created_of [] x = 0
created_of (s ∷ S) x = cond (eqb s.head.id x) s.head.created (created_of S x)

-- p is an ancestor of c: it is reached by one or more parent references
pub data Ancestor (S : List Segment) : ℕ → ℕ → Type 0 where
  parent : {p c : ℕ} → p ∈ parents_of S c → Ancestor S p c
  further : {p q c : ℕ} → Ancestor S p q → q ∈ parents_of S c → Ancestor S p c

-- all parent references of the layout, and all its edge words
unfoldable pub references : List Segment → List ℕ
references [] = []
references (s ∷ S) = s.parents ++ references S

unfoldable pub edge_words : List Segment → ℕ
edge_words [] = 0
edge_words (s ∷ S) = length s.parents + length s.children + edge_words S

-- l with the parents of all of xs
unfoldable pub grow : List Segment → List ℕ → List ℕ → List ℕ
grow S [] l = l
grow S (x ∷ xs) l = add_all (parents_of S x) (grow S xs l)

-- k times: the ids, and the parents of all of them
unfoldable pub close : List Segment → ℕ → List ℕ → List ℕ
close S zero xs = xs
close S (suc k) xs = close S k (grow S xs xs)

-- the parents, and as often as the layout has parent references the parents of all of them: ascending, each id once
unfoldable pub ancestors : List Segment → ℕ → List ℕ
ancestors S c = close S (length (references S)) (add_all (parents_of S c) [])

-- the segment and its ancestors, each id once
unfoldable pub family : List Segment → ℕ → List ℕ
family S c = add c (ancestors S c)

-- "the sum of parent counts over the segment and its ancestors in the layout, each id once"; an id without a row has no parents
unfoldable pub references_read : List Segment → ℕ → ℕ
references_read S c = total (λ x. length (parents_of S x)) (family S c)
