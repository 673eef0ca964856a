-- Rules that look segments up by id answer the same for the segments in ascending order: sorting is stable, so the first segment with an id stays
-- the first; and what is sorted again (Active ranges) does not see the order at all. Assumes nothing.
use Prim.Native.Nat.{ℕ, ◌<◌}
use native.Mathlib.Omega.{arith}
use mathlib.Core.Path.{◌≡◌, refl, sym, ap, ◌∙◌}
use mathlib.Core.Bool.{Bool, true, false, cond}
use mathlib.Core.Option.{Option, some}
use mathlib.Core.List.{List, [], ◌∷◌}
use borrow.Author.Tests.{eqb-true, leb-false, le-leb}
use lib.Dec.{eqb, leb}
use lib.ListN.{length}
use Rattle.lists.specs.Lists as Lists
use Rattle.lists.specs.Lists.{has}
use Rattle.lists.specs.Sort.{Row, insert, sorted, le3}
use Rattle.lists.proofs.SortLaws.{insert_comm, sorted-twice}
use Rattle.lists.proofs.SetLaws.{has-sorted}
use Rattle.lists.proofs.Sums.{sum-sorted}
use Rattle.lists.proofs.RowOrder.{order3}
use Rattle.types.specs.declared.limits.DagLimits.{DagLimits}
use Rattle.rules.specs.Model.{Segment, id_of, ids_of, lookup, id_le, by_id}
use Rattle.rules.specs.Edges.{parent_rule, parents_rule, child_rule, children_rule, links_rule, links_from, edges_rule}
use Rattle.rules.specs.Order.{order_of, order_rule}
use Rattle.types.specs.declared.records.Side.{Side}
use Rattle.types.specs.declared.records.Side.TheVariants.{Parents, Children}
use Rattle.rules.specs.Tiling.{range_of, ranges_of, tiling_rule, all_single, one_merged, split_rule, fork_rule, forks_from, join_rule, joins_from, transitions_rule, active_of, walked, coverage_rule}
use Rattle.rules.specs.Layout.{graph_rule}
use Rattle.rules.specs.Ancestors.{parents_of}
use Rattle.rules.specs.Ordering.{parents_in}

-- ---- looking up

-- two rows of different ids may change places
found-swap : (s t : Segment) (x : ℕ) (rest : Option Segment) → t.head.id < s.head.id
    → cond (eqb t.head.id x) (some t) (cond (eqb s.head.id x) (some s) rest) ≡ cond (eqb s.head.id x) (some s) (cond (eqb t.head.id x) (some t) rest)
found-swap s t x rest below = go (eqb t.head.id x) refl (eqb s.head.id x) refl
  where
    go : (a : Bool) → eqb t.head.id x ≡ a → (b : Bool) → eqb s.head.id x ≡ b
        → cond a (some t) (cond b (some s) rest) ≡ cond b (some s) (cond a (some t) rest)
    go true p true q = absurd (omega (arith, eqb-true t.head.id x p, eqb-true s.head.id x q))
    go true p false q = refl
    go false p b q = refl

lookup-insert : (x : ℕ) (s : Segment) (ss : List Segment) → lookup x (insert id_le s ss) ≡ lookup x (s ∷ ss)
lookup-insert x s [] = refl
lookup-insert x s (t ∷ ss) = go (lookup-insert x s ss) (id_le s t) refl
  where
    go : lookup x (insert id_le s ss) ≡ lookup x (s ∷ ss) → (b : Bool) → id_le s t ≡ b
        → lookup x (cond b (s ∷ t ∷ ss) (t ∷ insert id_le s ss)) ≡ lookup x (s ∷ t ∷ ss)
    go ih true e = refl
    go ih false e =
        ap (λ (o : Option Segment). cond (eqb t.head.id x) (some t) o) ih ∙ found-swap s t x (lookup x ss) (leb-false s.head.id t.head.id e)

pub lookup-by_id : (x : ℕ) (ss : List Segment) → lookup x (by_id ss) ≡ lookup x ss
lookup-by_id x [] = refl
lookup-by_id x (s ∷ ss) =
    lookup-insert x s (by_id ss) ∙ ap (λ (o : Option Segment). cond (eqb s.head.id x) (some s) o) (lookup-by_id x ss)

pub has-by_id : (x : ℕ) (ss : List Segment) → has x (ids_of (by_id ss)) ≡ has x (ids_of ss)
has-by_id x ss = has-sorted id_le id_of x ss

-- ---- rules that look up, over two lists in which the same is found

module _ (ss ts : List Segment) (same : (x : ℕ) → lookup x ss ≡ lookup x ts) where
  parents-same : (s : Segment) (l : List ℕ) → parents_rule ss s l ≡ parents_rule ts s l
  unfolding parents_rule parent_rule
  parents-same s [] = refl
  parents-same s (p ∷ l) = rw (same p, parents-same s l) refl

  children-same : (s : Segment) (l : List ℕ) → children_rule ss s l ≡ children_rule ts s l
  unfolding children_rule child_rule
  children-same s [] = refl
  children-same s (c ∷ l) = rw (same c, children-same s l) refl

  pub links-same : (l : List Segment) → links_from ss l ≡ links_from ts l
  unfolding links_from links_rule
  links-same [] = refl
  links-same (s ∷ l) = rw (parents-same s s.parents, children-same s s.children, links-same l) refl

  ranges-same : (l : List ℕ) → ranges_of ss l ≡ ranges_of ts l
  unfolding ranges_of
  ranges-same [] = refl
  ranges-same (x ∷ l) = rw (same x, ranges-same l) refl

  tiling-same : (side : Side) (s : Segment) (l : List ℕ) → tiling_rule side ss s l ≡ tiling_rule side ts s l
  unfolding tiling_rule
  tiling-same side s l = rw (ranges-same l) refl

  single-same : (l : List ℕ) → all_single ss l ≡ all_single ts l
  unfolding all_single
  single-same [] = refl
  single-same (x ∷ l) = rw (same x, single-same l) refl

  merged-same : (l : List ℕ) → one_merged ss l ≡ one_merged ts l
  unfolding one_merged
  merged-same [] = refl
  merged-same (x ∷ []) = rw (same x) refl
  merged-same (x ∷ y ∷ l) = refl

  pub forks-same : (l : List Segment) → forks_from ss l ≡ forks_from ts l
  unfolding forks_from fork_rule split_rule
  forks-same [] = refl
  forks-same (p ∷ l) =
      rw (single-same p.children, merged-same p.children, tiling-same Children p p.children, forks-same l) refl

  pub joins-same : (l : List Segment) → joins_from ss l ≡ joins_from ts l
  unfolding joins_from join_rule
  joins-same [] = refl
  joins-same (c ∷ l) = rw (tiling-same Parents c c.parents, joins-same l) refl

pub links-by_id : (ss l : List Segment) → links_from (by_id ss) l ≡ links_from ss l
links-by_id ss l = links-same (by_id ss) ss (λ x. lookup-by_id x ss) l

pub forks-by_id : (ss l : List Segment) → forks_from (by_id ss) l ≡ forks_from ss l
forks-by_id ss l = forks-same (by_id ss) ss (λ x. lookup-by_id x ss) l

pub joins-by_id : (ss l : List Segment) → joins_from (by_id ss) l ≡ joins_from ss l
joins-by_id ss l = joins-same (by_id ss) ss (λ x. lookup-by_id x ss) l

-- ---- coverage

-- the ranges in order, with one more where the test says so
abbrev and_if : Bool → Row → List Row → List Row
and_if true r rs = insert le3 r rs
and_if false r rs = rs

-- with that of s if it is Active
abbrev and_active : Segment → List Row → List Row
and_active s rs = and_if (eqb s.head.state 1) (range_of s) rs

sorted-active : (s : Segment) (ss : List Segment) → sorted le3 (active_of (s ∷ ss)) ≡ and_active s (sorted le3 (active_of ss))
unfolding active_of
sorted-active s ss = go (eqb s.head.state 1)
  where
    go : (a : Bool) → sorted le3 (cond a (range_of s ∷ active_of ss) (active_of ss)) ≡ and_if a (range_of s) (sorted le3 (active_of ss))
    go true = refl
    go false = refl

and-swap : (a b : Bool) (r q : Row) (rs : List Row) → and_if a r (and_if b q rs) ≡ and_if b q (and_if a r rs)
and-swap true true r q rs = insert_comm le3 order3 r q rs
and-swap true false r q rs = refl
and-swap false true r q rs = refl
and-swap false false r q rs = refl

active-swap : (s t : Segment) (rs : List Row) → and_active s (and_active t rs) ≡ and_active t (and_active s rs)
active-swap s t rs = and-swap (eqb s.head.state 1) (eqb t.head.state 1) (range_of s) (range_of t) rs

active-insert : (s : Segment) (ss : List Segment) → sorted le3 (active_of (insert id_le s ss)) ≡ and_active s (sorted le3 (active_of ss))
active-insert s [] = sorted-active s []
active-insert s (t ∷ ss) = go (active-insert s ss) (id_le s t)
  where
    go : sorted le3 (active_of (insert id_le s ss)) ≡ and_active s (sorted le3 (active_of ss)) → (b : Bool)
        → sorted le3 (active_of (cond b (s ∷ t ∷ ss) (t ∷ insert id_le s ss))) ≡ and_active s (sorted le3 (active_of (t ∷ ss)))
    go ih true = sorted-active s (t ∷ ss)
    go ih false =
        sorted-active t (insert id_le s ss)
        ∙ ap (and_active t) ih
        ∙ active-swap t s (sorted le3 (active_of ss))
        ∙ ap (and_active s) (sym (sorted-active t ss))

sorted-by_id : (ss : List Segment) → sorted le3 (active_of (by_id ss)) ≡ sorted le3 (active_of ss)
sorted-by_id [] = refl
sorted-by_id (s ∷ ss) = active-insert s (by_id ss) ∙ ap (and_active s) (sorted-by_id ss) ∙ sym (sorted-active s ss)

none-sorted : (rs : List Row) → Lists.none (sorted le3 rs) ≡ Lists.none rs
none-sorted [] = refl
none-sorted (r ∷ rs) = go (sorted le3 rs)
  where
    go : (l : List Row) → Lists.none (insert le3 r l) ≡ false
    go [] = refl
    go (q ∷ l) = by (le3 r q)
      where
        by : (b : Bool) → Lists.none (cond b (r ∷ q ∷ l) (q ∷ insert le3 r l)) ≡ false
        by true = refl
        by false = refl

-- only the ranges in order count
pub coverage-same : (rs qs : List Row) → sorted le3 rs ≡ sorted le3 qs → coverage_rule rs ≡ coverage_rule qs
unfolding coverage_rule walked
coverage-same rs qs e =
    let z : Lists.none rs ≡ Lists.none qs = sym (none-sorted rs) ∙ ap Lists.none e ∙ none-sorted qs in
    rw (z, e) refl

pub active-by_id : (ss : List Segment) → coverage_rule (active_of (by_id ss)) ≡ coverage_rule (active_of ss)
active-by_id ss = coverage-same (active_of (by_id ss)) (active_of ss) (sorted-by_id ss)

-- ---- whole rules: an ascending list is its own `by_id`

pub by_id-twice : (ss : List Segment) → by_id (by_id ss) ≡ by_id ss
by_id-twice ss = sorted-twice id_le (λ s t e. lt-le s.head.id t.head.id (leb-false s.head.id t.head.id e)) ss
  where
    lt-le : (a b : ℕ) → b < a → leb b a ≡ true
    lt-le a b h = le-leb b a (omega arith)

pub edges-by_id : (ss : List Segment) → edges_rule (by_id ss) ≡ edges_rule ss
unfolding edges_rule
edges-by_id ss = rw (by_id-twice ss) (links-by_id ss (by_id ss))

pub transitions-by_id : (ss : List Segment) → transitions_rule (by_id ss) ≡ transitions_rule ss
unfolding transitions_rule
transitions-by_id ss = rw (by_id-twice ss, forks-by_id ss (by_id ss), joins-by_id ss (by_id ss)) refl

pub length-by_id : (ss : List Segment) → length (by_id ss) ≡ length ss
length-by_id ss = sum-sorted id_le length (λ (s : Segment). 1) (λ s l. omega arith) ss

pub order_of-by_id : (limit : ℕ) (ss : List Segment) → order_of limit (by_id ss) ≡ order_of limit ss
unfolding order_of
order_of-by_id limit ss = rw (by_id-twice ss, length-by_id ss) refl

-- 28 to 35 do not see the order of the rows
pub graph-by_id : (limits : DagLimits) (ss : List Segment) → graph_rule limits (by_id ss) ≡ graph_rule limits ss
unfolding graph_rule order_rule
graph-by_id limits ss = rw (order_of-by_id limits.depth ss, transitions-by_id ss, active-by_id ss) refl

-- ---- parents, as the ordering query reads them

pub parents-lookup : (x : ℕ) (ss : List Segment) → parents_of ss x ≡ parents_in (lookup x ss)
unfolding parents_of
parents-lookup x [] = refl
parents-lookup x (s ∷ ss) = go (parents-lookup x ss) (eqb s.head.id x)
  where
    go : parents_of ss x ≡ parents_in (lookup x ss) → (a : Bool) → cond a s.parents (parents_of ss x) ≡ parents_in (cond a (some s) (lookup x ss))
    go ih true = refl
    go ih false = ih

pub parents-by_id : (x : ℕ) (ss : List Segment) → parents_of (by_id ss) x ≡ parents_of ss x
parents-by_id x ss = parents-lookup x (by_id ss) ∙ ap parents_in (lookup-by_id x ss) ∙ sym (parents-lookup x ss)
