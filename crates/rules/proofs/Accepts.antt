-- What the rules' acceptance of a layout says of its segments: ids and edge lists have no repeats (8, 20, 21), both ends tell of each edge (24, 25, 27),
-- so the order holds every segment once, each after its parents: the layout is one that demand 3 speaks of (`Reading.Accepted`). Assumes nothing.
use Prim.Native.Nat.{ℕ, ◌+◌, ◌<◌, ◌≤◌, zero-le}
use native.Mathlib.Omega.{arith}
use mathlib.Core.Path.{◌≡◌, refl, sym, ap, ◌∙◌}
use mathlib.Core.Bool.{Bool, true, false, cond, not, ◌||◌}
use mathlib.Core.Logic.{◌⊎◌, inl, inr, ⊎_elim}
use mathlib.Core.Option.{Option, none, some}
use mathlib.Core.List.{List, [], ◌∷◌, ◌++◌, map}
use borrow.Author.Tests.{eq-eqb, ne_eqb, eqb-true, leb-true, leb-false}
use lib.Dec.{eqb}
use lib.ListN.{length, get_or, take}
use Rattle.lists.specs.Lists.{has, tick, ◌∈◌, ◌∉◌}
use Rattle.lists.specs.Sort.{insert}
use Rattle.lists.specs.Sets.{Ascending}
use Rattle.lists.proofs.Cases.{lt-or-le, eq-or-ne}
use Rattle.lists.proofs.SortLaws.{true-or-false}
use Rattle.lists.proofs.SetLaws.{never, here, here_eq, there, in-cons, in_left, in_right}
use Rattle.answers.specs.Answer.{when, Accepted, Refused}
use Rattle.answers.proofs.Judging.{then-both, when-not}
use Rattle.types.specs.declared.limits.DagLimits.{DagLimits}
use Rattle.rules.specs.Model.{Segment, Placement, ids_of, lookup, id_le, by_id}
use Rattle.types.specs.declared.records.Side.{Side}
use Rattle.types.specs.declared.records.Side.TheVariants.{Parents, Children}
use Rattle.rules.specs.Rows.{size_rule, placements_rule, duplicate, items_from, list_rule, lists_rule, head_rule, row_rule, counted_rule, rows_from, rows_rule, dangling_rule}
use Rattle.rules.specs.Edges.{parent_found, parent_known, parent_rule, child_found, child_known, child_rule, parents_rule, children_rule, links_rule, links_from, edges_rule}
use Rattle.rules.specs.Order.{node_of, Ordered, in_order, too_deep, cyclic, order_from, order_of, ordered_rule, order_rule}
use Rattle.rules.specs.Tiling.{transitions_rule, active_of, coverage_rule}
use Rattle.rules.specs.Layout.{graph_rule, layout_rule}
use Rattle.rules.specs.Ancestors.{parents_of}
use Rattle.rules.specs.Ordering.{parents_in}
use Rattle.rules.specs.Reading as Reading
use Rattle.rules.proofs.Ascended.{lookup-by_id, has-by_id, links-by_id, length-by_id, parents-lookup}
use Rattle.rules.proofs.Taken.{times, times-in, in-times, Reciprocal, Taken, order-taken}
use Rattle.answers.specs.declared.Refusal.TheVariants.{SelfEdge, DuplicateSegment, NonReciprocalEdge}

-- ---- no repeats in an edge list

seen_none : (side : Side) (id z : ℕ) (before l : List ℕ) → items_from side id before l ≡ Accepted → z ∈ before → times z l ≡ 0
unfolding items_from
seen_none side id z before [] e h = refl
seen_none side id z before (x ∷ xs) e h =
    let a = then-both (when (eqb x id) (Refused (SelfEdge id))) _ e in
    let b = then-both (when (has x before) (Refused (duplicate side id x))) _ a.1 in
    let fresh : x ∉ before = when-not (has x before) _ b.0 in
    let other : x ≡ z → ⊥ = λ q. never (sym fresh ∙ (ap (λ (k : ℕ). has k before) q ∙ h)) in
    omega (arith, ap tick (ne_eqb x z other), seen_none side id z (before ++ (x ∷ [])) xs b.1 (in_left z before (x ∷ []) h))

items-once : (side : Side) (id z : ℕ) (before l : List ℕ) → items_from side id before l ≡ Accepted → times z l ≤ 1
unfolding items_from
items-once side id z before [] e = zero-le
items-once side id z before (x ∷ xs) e =
    let a = then-both (when (eqb x id) (Refused (SelfEdge id))) _ e in
    let b = then-both (when (has x before) (Refused (duplicate side id x))) _ a.1 in
    ⊎_elim
    (λ (q : x ≡ z).
    let held : z ∈ (before ++ (x ∷ [])) = in_right z before (x ∷ []) (rw (← q) (here x [])) in
    omega (arith, ap tick (eq-eqb x z q), seen_none side id z (before ++ (x ∷ [])) xs b.1 held))
    (λ (q : x ≡ z → ⊥). omega (arith, ap tick (ne_eqb x z q), items-once side id z (before ++ (x ∷ [])) xs b.1))
    (eq-or-ne x z)

pub list-once : (side : Side) (id z : ℕ) (l : List ℕ) → list_rule side id l ≡ Accepted → times z l ≤ 1
unfolding list_rule
list-once side id z l e = items-once side id z [] l e

-- ---- the rows

module _ (layout limit : ℕ) where
  -- the head row of rows that are accepted, and the rest
  pub record Passed (seen : List ℕ) (p c : ℕ) (s : Segment) (ss : List Segment) : Type 0 where
    pub new : s.head.id ∉ seen
    pub row : row_rule layout s ≡ Accepted
    pub rest : rows_from layout limit (seen ++ (s.head.id ∷ [])) (p + length s.parents) (c + length s.children) ss ≡ Accepted

  row-passed : (seen : List ℕ) (p c : ℕ) (s : Segment) (ss : List Segment) → rows_from layout limit seen p c (s ∷ ss) ≡ Accepted → Passed seen p c s ss
  unfolding rows_from counted_rule
  row-passed seen p c s ss e =
      let a = then-both (counted_rule layout limit seen (p + length s.parents) (c + length s.children) s) _ e in
      let b = then-both (when (has s.head.id seen) (Refused (DuplicateSegment s.head.id))) _ a.0 in
      let d = then-both (row_rule layout s) _ b.1 in
      record { new = when-not (has s.head.id seen) _ b.0; row = d.0; rest = a.1 }

  ids-seen : (z p c : ℕ) (seen : List ℕ) (ss : List Segment) → rows_from layout limit seen p c ss ≡ Accepted → z ∈ seen → times z (ids_of ss) ≡ 0
  ids-seen z p c seen [] e h = refl
  ids-seen z p c seen (s ∷ ss) e h =
      let r = row-passed seen p c s ss e in
      let other : s.head.id ≡ z → ⊥ = λ q. never (sym r.new ∙ (ap (λ (k : ℕ). has k seen) q ∙ h)) in
      omega (arith, ap tick (ne_eqb s.head.id z other), ids-seen z (p + length s.parents) (c + length s.children) (seen ++ (s.head.id ∷ [])) ss r.rest (in_left z seen (s.head.id ∷ []) h))

  ids-once : (z p c : ℕ) (seen : List ℕ) (ss : List Segment) → rows_from layout limit seen p c ss ≡ Accepted → times z (ids_of ss) ≤ 1
  ids-once z p c seen [] e = zero-le
  ids-once z p c seen (s ∷ ss) e =
      let r = row-passed seen p c s ss e in
      ⊎_elim
      (λ (q : s.head.id ≡ z).
      let held : z ∈ (seen ++ (s.head.id ∷ [])) = in_right z seen (s.head.id ∷ []) (here_eq z s.head.id [] (sym q)) in
      omega (arith, ap tick (eq-eqb s.head.id z q), ids-seen z (p + length s.parents) (c + length s.children) (seen ++ (s.head.id ∷ [])) ss r.rest held))
      (λ (q : s.head.id ≡ z → ⊥). omega (arith, ap tick (ne_eqb s.head.id z q), ids-once z (p + length s.parents) (c + length s.children) (seen ++ (s.head.id ∷ [])) ss r.rest))
      (eq-or-ne s.head.id z)

  row_of : (x p c : ℕ) (seen : List ℕ) (ss : List Segment) → rows_from layout limit seen p c ss ≡ Accepted → (s : Segment) → lookup x ss ≡ some s → row_rule layout s ≡ Accepted
  row_of x p c seen [] e s f = let q : ◌≡◌ {A = ℕ} 0 1 = cc in absurd (omega arith)
  row_of x p c seen (t ∷ ss) e s f =
      let r = row-passed seen p c t ss e in
      go (row_of x (p + length t.parents) (c + length t.children) (seen ++ (t.head.id ∷ [])) ss r.rest s) r.row (eqb t.head.id x) f
    where
      go : (lookup x ss ≡ some s → row_rule layout s ≡ Accepted) → row_rule layout t ≡ Accepted → (b : Bool) → cond b (some t) (lookup x ss) ≡ some s → row_rule layout s ≡ Accepted
      go ih own true k = let same : t ≡ s = cc in rw (← same) own
      go ih own false k = ih k

-- what the rows say: each id once, and no repeats in the lists of a segment
pub rows-once : (layout limit z : ℕ) (ss : List Segment) → rows_rule layout limit ss ≡ Accepted → times z (ids_of ss) ≤ 1
unfolding rows_rule
rows-once layout limit z ss e = ids-once layout limit z 0 0 [] ss e

pub lists-once : (layout limit x z : ℕ) (ss : List Segment) (s : Segment) → rows_rule layout limit ss ≡ Accepted → lookup x ss ≡ some s → (times z s.parents ≤ 1) × (times z s.children ≤ 1)
unfolding rows_rule row_rule lists_rule
lists-once layout limit x z ss s e f =
    let a = then-both (head_rule layout s.head (length s.children)) _ (row_of layout limit x 0 0 [] ss e s f) in
    let b = then-both (list_rule Parents s.head.id s.parents) _ a.1 in
    (list-once Parents s.head.id z s.parents b.0, list-once Children s.head.id z s.children b.1)

-- ---- ids that ascend

in_insert : (z : ℕ) (s : Segment) (l : List Segment) → z ∈ ids_of (insert id_le s l) → (z ≡ s.head.id) ⊎ (z ∈ ids_of l)
in_insert z s [] h = in-cons z s.head.id [] h
in_insert z s (t ∷ l) h = go (in_insert z s l) (id_le s t) h
  where
    go : (z ∈ ids_of (insert id_le s l) → (z ≡ s.head.id) ⊎ (z ∈ ids_of l)) → (b : Bool) → z ∈ ids_of (cond b (s ∷ t ∷ l) (t ∷ insert id_le s l)) → (z ≡ s.head.id) ⊎ (z ∈ (t.head.id ∷ ids_of l))
    go ih true k = in-cons z s.head.id (t.head.id ∷ ids_of l) k
    go ih false k = ⊎_elim (λ (q : z ≡ t.head.id). inr (here_eq z t.head.id (ids_of l) q)) (λ (q : z ∈ ids_of (insert id_le s l)). ⊎_elim (λ w. inl w) (λ (w : z ∈ ids_of l). inr (there z t.head.id (ids_of l) w)) (ih q)) (in-cons z t.head.id (ids_of (insert id_le s l)) k)

insert-up : (s : Segment) (l : List Segment) → s.head.id ∉ ids_of l → Ascending (ids_of l) → Ascending (ids_of (insert id_le s l))
insert-up s [] h a = ((λ y k. never k), tt)
insert-up s (t ∷ l) h a = go (insert-up s l) (id_le s t) refl (eq-or-ne t.head.id s.head.id)
  where
    go : (s.head.id ∉ ids_of l → Ascending (ids_of l) → Ascending (ids_of (insert id_le s l))) → (b : Bool) → id_le s t ≡ b → (t.head.id ≡ s.head.id) ⊎ (t.head.id ≡ s.head.id → ⊥)
        → Ascending (ids_of (cond b (s ∷ t ∷ l) (t ∷ insert id_le s l)))
    go ih b e (inl q) = never (sym h ∙ ap (λ (k : Bool). k || has s.head.id (ids_of l)) (eq-eqb t.head.id s.head.id q))
    go ih true e (inr q) =
        let le : s.head.id ≤ t.head.id = leb-true s.head.id t.head.id e in
        ((λ y k. ⊎_elim (λ (w : y ≡ t.head.id). omega arith) (λ (w : y ∈ ids_of l). omega (arith, a.0 y w)) (in-cons y t.head.id (ids_of l) k)), a)
    go ih false e (inr q) =
        let lt : t.head.id < s.head.id = leb-false s.head.id t.head.id e in
        let out : s.head.id ∉ ids_of l = sym (ap (λ (k : Bool). k || has s.head.id (ids_of l)) (ne_eqb t.head.id s.head.id q)) ∙ h in
        ((λ y k. ⊎_elim (λ (w : y ≡ s.head.id). omega arith) (λ (w : y ∈ ids_of l). a.0 y w) (in_insert y s l k)), ih out a.1)

pub by_id-up : (ss : List Segment) → ((z : ℕ) → times z (ids_of ss) ≤ 1) → Ascending (ids_of (by_id ss))
by_id-up [] h = tt
by_id-up (s ∷ ss) h =
    let apart : s.head.id ∉ ids_of ss = ⊎_elim (λ (k : s.head.id ∈ ids_of ss). absurd (omega (arith, h s.head.id, in-times s.head.id (ids_of ss) k, ap tick (eq-eqb s.head.id s.head.id refl)))) (λ k. k) (true-or-false (has s.head.id (ids_of ss))) in
    insert-up s (by_id ss) (has-by_id s.head.id ss ∙ apart) (by_id-up ss (λ z. omega (arith, h z)))

-- ---- the edges

pub lookup-id : (x : ℕ) (ss : List Segment) (s : Segment) → lookup x ss ≡ some s → s.head.id ≡ x
lookup-id x [] s e = let q : ◌≡◌ {A = ℕ} 0 1 = cc in absurd (omega arith)
lookup-id x (t ∷ ss) s e = go (lookup-id x ss s) (eqb t.head.id x) refl e
  where
    go : (lookup x ss ≡ some s → s.head.id ≡ x) → (b : Bool) → eqb t.head.id x ≡ b → cond b (some t) (lookup x ss) ≡ some s → s.head.id ≡ x
    go ih true k f = let same : t ≡ s = cc in rw (← same) (eqb-true t.head.id x k)
    go ih false k f = ih f

pub lookup-in : (x : ℕ) (ss : List Segment) (s : Segment) → lookup x ss ≡ some s → x ∈ ids_of ss
lookup-in x [] s e = let q : ◌≡◌ {A = ℕ} 0 1 = cc in absurd (omega arith)
lookup-in x (t ∷ ss) s e = go (lookup-in x ss s) (eqb t.head.id x) e
  where
    go : (lookup x ss ≡ some s → x ∈ ids_of ss) → (b : Bool) → cond b (some t) (lookup x ss) ≡ some s → (b || has x (ids_of ss)) ≡ true
    go ih true f = refl
    go ih false f = ih f

links-of : (S l : List Segment) (x : ℕ) (s : Segment) → links_from S l ≡ Accepted → lookup x l ≡ some s → links_rule S s ≡ Accepted
unfolding links_from
links-of S [] x s e f = let q : ◌≡◌ {A = ℕ} 0 1 = cc in absurd (omega arith)
links-of S (t ∷ l) x s e f = let a = then-both (links_rule S t) _ e in go (links-of S l x s a.1) a.0 (eqb t.head.id x) f
  where
    go : (lookup x l ≡ some s → links_rule S s ≡ Accepted) → links_rule S t ≡ Accepted → (b : Bool) → cond b (some t) (lookup x l) ≡ some s → links_rule S s ≡ Accepted
    go ih own true k = let same : t ≡ s = cc in rw (← same) own
    go ih own false k = ih k

parent_of : (S : List Segment) (s : Segment) (l : List ℕ) (p : ℕ) → parents_rule S s l ≡ Accepted → p ∈ l → parent_rule S s p ≡ Accepted
unfolding parents_rule
parent_of S s [] p e h = never h
parent_of S s (q ∷ l) p e h = let a = then-both (parent_rule S s q) _ e in go (parent_of S s l p a.1) a.0 (in-cons p q l h)
  where
    go : (p ∈ l → parent_rule S s p ≡ Accepted) → parent_rule S s q ≡ Accepted → (p ≡ q) ⊎ (p ∈ l) → parent_rule S s p ≡ Accepted
    go ih own (inl k) = rw k own
    go ih own (inr k) = ih k

child-of : (S : List Segment) (s : Segment) (l : List ℕ) (c : ℕ) → children_rule S s l ≡ Accepted → c ∈ l → child_rule S s c ≡ Accepted
unfolding children_rule
child-of S s [] c e h = never h
child-of S s (q ∷ l) c e h = let a = then-both (child_rule S s q) _ e in go (child-of S s l c a.1) a.0 (in-cons c q l h)
  where
    go : (c ∈ l → child_rule S s c ≡ Accepted) → child_rule S s q ≡ Accepted → (c ≡ q) ⊎ (c ∈ l) → child_rule S s c ≡ Accepted
    go ih own (inl k) = rw k own
    go ih own (inr k) = ih k

not-false : (b : Bool) → not b ≡ false → b ≡ true
not-false true e = refl
not-false false e = never (sym e)

-- a parent has a row, and lists the segment among its children
pub parent-known : (S : List Segment) (s : Segment) (p : ℕ) → parent_rule S s p ≡ Accepted → (q : Segment) × (lookup p S ≡ some q) × (s.head.id ∈ q.children)
unfolding parent_rule parent_known parent_found
parent-known S s p e = go (lookup p S) refl e
  where
    pass : (q : Segment) → parent_found s q ≡ Accepted → s.head.id ∈ q.children
    pass q k = let a = then-both (when (not (has s.head.id q.children)) (Refused (NonReciprocalEdge q.head.id s.head.id))) _ k in not-false (has s.head.id q.children) (when-not _ _ a.0)

    go : (o : Option Segment) → lookup p S ≡ o → parent_known s p o ≡ Accepted → (q : Segment) × (lookup p S ≡ some q) × (s.head.id ∈ q.children)
    go none f k = let z : ◌≡◌ {A = ℕ} 0 1 = cc in absurd (omega arith)
    go (some q) f k = (q, f, pass q k)

-- a child has a row, and lists the segment among its parents
pub child-known : (S : List Segment) (s : Segment) (c : ℕ) → child_rule S s c ≡ Accepted → (q : Segment) × (lookup c S ≡ some q) × (s.head.id ∈ q.parents)
unfolding child_rule child_known child_found
child-known S s c e = go (lookup c S) refl e
  where
    pass : (q : Segment) → child_found s q ≡ Accepted → s.head.id ∈ q.parents
    pass q k = let a = then-both (when (not (has s.head.id q.parents)) (Refused (NonReciprocalEdge s.head.id q.head.id))) _ k in not-false (has s.head.id q.parents) (when-not _ _ a.0)

    go : (o : Option Segment) → lookup c S ≡ o → child_known s c o ≡ Accepted → (q : Segment) × (lookup c S ≡ some q) × (s.head.id ∈ q.parents)
    go none f k = let z : ◌≡◌ {A = ℕ} 0 1 = cc in absurd (omega arith)
    go (some q) f k = (q, f, pass q k)

module _ (S : List Segment) (linked : links_from S S ≡ Accepted) (x : ℕ) (s : Segment) (found : lookup x S ≡ some s) where
  both-lists : (parents_rule S s s.parents ≡ Accepted) × (children_rule S s s.children ≡ Accepted)
  unfolding links_rule
  both-lists = then-both (parents_rule S s s.parents) _ (links-of S S x s linked found)

  pub parents-known : (p : ℕ) → p ∈ s.parents → (q : Segment) × (lookup p S ≡ some q) × (x ∈ q.children)
  parents-known p h =
      let r = parent-known S s p (parent_of S s s.parents p both-lists.0 h) in
      (r.0, r.1, ap (λ (k : ℕ). has k r.0.children) (sym (lookup-id x S s found)) ∙ r.2)

  pub children-known : (c : ℕ) → c ∈ s.children → (q : Segment) × (lookup c S ≡ some q) × (x ∈ q.parents)
  children-known c h =
      let r = child-known S s c (child-of S s s.children c both-lists.1 h) in
      (r.0, r.1, ap (λ (k : ℕ). has k r.0.parents) (sym (lookup-id x S s found)) ∙ r.2)

some_same : (a b : Segment) → ◌≡◌ {A = Option Segment} (some a) (some b) → a ≡ b
some_same a b e = cc

-- both ends tell of each edge
pub reciprocal : (layout limit : ℕ) (ss : List Segment) → rows_rule layout limit ss ≡ Accepted → edges_rule ss ≡ Accepted → Reciprocal (by_id ss)
unfolding edges_rule
reciprocal layout limit ss rows edges =
    record { up = by_id-up ss (λ z. rows-once layout limit z ss rows); agree = λ x z s t f g. agree x z s t f g }
  where
    linked : links_from (by_id ss) (by_id ss) ≡ Accepted
    linked = links-by_id ss (by_id ss) ∙ edges

    once : (x z : ℕ) (s : Segment) → lookup x (by_id ss) ≡ some s → (times z s.parents ≤ 1) × (times z s.children ≤ 1)
    once x z s f = lists-once layout limit x z ss s rows (sym (lookup-by_id x ss) ∙ f)

    agree : (x z : ℕ) (s t : Segment) → lookup x (by_id ss) ≡ some s → lookup z (by_id ss) ≡ some t → times x t.parents ≡ times z s.children
    agree x z s t f g = go (lt-or-le (times x t.parents) 1) (lt-or-le (times z s.children) 1)
      where
        down : 1 ≤ times x t.parents → 1 ≤ times z s.children
        down h =
            let r = parents-known (by_id ss) linked z t g x (times-in x t.parents h) in
            let same : r.0 ≡ s = some_same r.0 s (sym r.1 ∙ f) in
            in-times z s.children (ap (λ (q : Segment). has z q.children) (sym same) ∙ r.2)

        up : 1 ≤ times z s.children → 1 ≤ times x t.parents
        up h =
            let r = children-known (by_id ss) linked x s f z (times-in z s.children h) in
            let same : r.0 ≡ t = some_same r.0 t (sym r.1 ∙ g) in
            in-times x t.parents (ap (λ (q : Segment). has x q.parents) (sym same) ∙ r.2)

        go : (times x t.parents < 1) ⊎ (1 ≤ times x t.parents) → (times z s.children < 1) ⊎ (1 ≤ times z s.children) → times x t.parents ≡ times z s.children
        go (inl a) (inl b) = omega arith
        go (inl a) (inr b) = absurd (omega (arith, up b))
        go (inr a) (inl b) = absurd (omega (arith, down a))
        go (inr a) (inr b) = omega (arith, (once z x t g).0, (once x z s f).1)

-- ---- the whole layout

-- what the chain of a layout's checks accepts, stage by stage
pub record Passes (epoch size : ℕ) (limits : DagLimits) (ss : List Segment) (ps : List Placement) : Type 0 where
  pub rows : rows_rule epoch limits.edges ss ≡ Accepted
  pub edges : edges_rule ss ≡ Accepted
  pub order : order_rule limits.depth ss ≡ Accepted
  pub transitions : transitions_rule ss ≡ Accepted
  pub coverage : coverage_rule (active_of ss) ≡ Accepted

pub layout-passes : (epoch size : ℕ) (limits : DagLimits) (ss : List Segment) (ps : List Placement) → layout_rule epoch size limits ss ps ≡ Accepted → Passes epoch size limits ss ps
unfolding layout_rule graph_rule
layout-passes epoch size limits ss ps e =
    let a = then-both (size_rule limits size (length ss) (length ps)) _ e in
    let b = then-both (placements_rule ps) _ a.1 in
    let c = then-both (rows_rule epoch limits.edges ss) _ b.1 in
    let d = then-both (dangling_rule ss ps) _ c.1 in
    let f = then-both (edges_rule ss) _ d.1 in
    let g = then-both (order_rule limits.depth ss) _ f.1 in
    let h = then-both (transitions_rule ss) _ g.1 in
    record { rows = c.0; edges = f.0; order = g.0; transitions = h.0; coverage = h.1 }

-- the order that was found
ordered : (limit : ℕ) (o : Ordered) → ordered_rule limit o ≡ Accepted → (ys : List ℕ) × (o ≡ in_order ys)
unfolding ordered_rule
ordered limit (in_order ys) e = (ys, refl)
ordered limit (too_deep d) e = let q : ◌≡◌ {A = ℕ} 0 1 = cc in absurd (omega arith)
ordered limit cyclic e = let q : ◌≡◌ {A = ℕ} 0 1 = cc in absurd (omega arith)

-- An accepted layout, as it is held: every parent has a row, and the order lists every row, each after its parents.
pub layout-accepted : (epoch size : ℕ) (limits : DagLimits) (ss : List Segment) (ps : List Placement) → layout_rule epoch size limits ss ps ≡ Accepted → Reading.Accepted (by_id ss)
unfolding order_rule order_of edges_rule
layout-accepted epoch size limits ss ps e =
    record {
      present = λ c p h. present c p h;
      order = run.0;
      all = λ x h. all.1 x h;
      before = λ j h p k. before j h p k;
    }
  where
    passes : Passes epoch size limits ss ps
    passes = layout-passes epoch size limits ss ps e

    linked : links_from (by_id ss) (by_id ss) ≡ Accepted
    linked = links-by_id ss (by_id ss) ∙ passes.edges

    run : (ys : List ℕ) × (order_of limits.depth ss ≡ in_order ys)
    run = ordered limits.depth (order_of limits.depth ss) passes.order

    all : Taken (by_id ss) run.0 × ((z : ℕ) → z ∈ ids_of (by_id ss) → z ∈ run.0)
    all = order-taken (by_id ss) (reciprocal epoch limits.edges ss passes.rows passes.edges) limits.depth run.0 (ap (λ (n : ℕ). order_from limits.depth n [] (map node_of (by_id ss))) (length-by_id ss) ∙ run.1)

    known : (c p : ℕ) (o : Option Segment) → lookup c (by_id ss) ≡ o → p ∈ parents_in o → p ∈ ids_of (by_id ss)
    known c p none f h = never h
    known c p (some s) f h = let r = parents-known (by_id ss) linked c s f p h in lookup-in p (by_id ss) r.0 r.1

    present : (c p : ℕ) → p ∈ parents_of (by_id ss) c → p ∈ ids_of (by_id ss)
    present c p h = known c p (lookup c (by_id ss)) refl (ap (has p) (sym (parents-lookup c (by_id ss))) ∙ h)

    behind : (j : ℕ) → j < length run.0 → (p : ℕ) (o : Option Segment) → lookup (get_or run.0 j 0) (by_id ss) ≡ o → p ∈ parents_in o → p ∈ take j run.0
    behind j h p none f k = never k
    behind j h p (some s) f k = all.0.before j h s f p k

    before : (j : ℕ) → j < length run.0 → (p : ℕ) → p ∈ parents_of (by_id ss) (get_or run.0 j 0) → p ∈ take j run.0
    before j h p k = behind j h p (lookup (get_or run.0 j 0) (by_id ss)) refl (ap (has p) (sym (parents-lookup (get_or run.0 j 0) (by_id ss))) ∙ k)
