-- 24 to 27 by row number, and with the other end of an edge asked of an index of pairs. `links-told` of proofs/Told shows that this is `links_from` of the
-- rule book. Assumes nothing.
use Rattle.std.specs.Prelude.{ℕ, zero, suc, ◌+◌, ◌*◌, ◌≡◌, not, List, [], ◌∷◌, length, get_or}
use Rattle.std.proofs.Math.Option.{some}
use Rattle.lists.specs.Lists.{has}
use Rattle.words.specs.Table.{ids, where_is, Found, At, Nothing}
use Rattle.sorts.specs.Rows.{rows}
use Rattle.lookups.specs.PairSearch.{has_pair, Ordered}
use Rattle.types.specs.declared.records.Side.{Side}
use Rattle.types.specs.declared.records.Side.TheVariants.{Parents, Children}
use Rattle.answers.specs.declared.Refusal.{Refusal}
use Rattle.answers.specs.Answer.{when, ◌then◌, Judged, Accepted, Refused}
use Rattle.rules.specs.Model.{Segment, lookup}
use Rattle.rules.specs.Tables.{held_width, optional, stretch, parents_at, children_at}
use Rattle.rules.specs.Edges.{epoch_rule}
use Rattle.answers.specs.declared.Refusal.TheVariants.{NonReciprocalEdge, DanglingParent, DanglingChild}

-- k pairs in order, which say of each segment of S what its list has
pub record Tells (list : Segment → List ℕ) (S : List Segment) (pairs : List ℕ) (k : ℕ) : Type 0 where
  pub size : length pairs ≡ 3 * k
  pub order : Ordered (rows pairs)
  pub tells : (x y : ℕ) (s : Segment) → lookup x S ≡ some s → has_pair x y (rows pairs) ≡ has y (list s)

abbrev pub id_at : List ℕ → ℕ → ℕ
id_at table i = get_or table (i * held_width) 0

-- a segment lists another on that side, and no row has that id: 24, 27
abbrev pub dangling : Side → ℕ → ℕ → Refusal
dangling Parents id other = DanglingParent id other
dangling Children id other = DanglingChild id other

-- and the other does not list the segment: 25 (parent, child)
abbrev pub unanswered : Side → ℕ → ℕ → Refusal
unanswered Parents id other = NonReciprocalEdge other id
unanswered Children id other = NonReciprocalEdge id other

-- 26, asked of the parents of row i
abbrev pub epochs_at : Side → List ℕ → ℕ → ℕ → Judged
epochs_at Parents table i r =
    epoch_rule (id_at table r) (id_at table i) (optional (get_or table (r * held_width + 5) 0) (get_or table (r * held_width + 6) 0)) (get_or table (i * held_width + 4) 0)
epochs_at Children table i r = Accepted

-- the other end of an edge of row i, which stands in row r: 25, 26
unfoldable pub edge_at : Side → List ℕ → List ℕ → ℕ → ℕ → Judged
edge_at side table pairs i r =
    when (not (has_pair (id_at table r) (id_at table i) (rows pairs))) (Refused (unanswered side (id_at table i) (id_at table r))) then
    epochs_at side table i r

-- and where it was looked for: 24, 27
abbrev pub edge_where : Side → List ℕ → List ℕ → ℕ → ℕ → Found → Judged
edge_where side table pairs i other Nothing = Refused (dangling side (id_at table i) other)
edge_where side table pairs i other (At r) = edge_at side table pairs i r

-- each of a list, in list order: the first refusal
unfoldable pub each : (ℕ → Judged) → List ℕ → Judged
each rule [] = Accepted
each rule (x ∷ xs) = rule x then each rule xs

abbrev pub edges_all : Side → List ℕ → ℕ → List ℕ → ℕ → List ℕ → Judged
edges_all side table n pairs i l = each (λ (x : ℕ). edge_where side table pairs i x (where_is (ids table held_width n) x)) l

-- row i, whose edges begin at `at`
unfoldable pub row_links : List ℕ → List ℕ → ℕ → List ℕ → List ℕ → ℕ → ℕ → Judged
row_links table edges n cpairs ppairs i at =
    edges_all Parents table n cpairs i (stretch edges at (at + parents_at table (i * held_width))) then
    edges_all Children table n ppairs i (stretch edges (at + parents_at table (i * held_width)) (at + parents_at table (i * held_width) + children_at table (i * held_width)))

-- m rows from row i on, whose edges begin at `at`
unfoldable pub rows_links : List ℕ → List ℕ → ℕ → List ℕ → List ℕ → ℕ → ℕ → ℕ → Judged
rows_links table edges n cpairs ppairs zero i at = Accepted
rows_links table edges n cpairs ppairs (suc m) i at =
    row_links table edges n cpairs ppairs i at then
    rows_links table edges n cpairs ppairs m (i + 1) (at + parents_at table (i * held_width) + children_at table (i * held_width))
