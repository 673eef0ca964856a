-- 24 to 27 by row number are the rule book's: a row found in the table is the segment looked up, and the pairs tell what the other end lists.
--     each-*      the loop over one list     links-*      the loop over the rows     links-told      both are `links_from`
-- Assumes nothing.
use Prim.Native.Nat.{ℕ, zero, suc, ◌+◌, ◌-◌, ◌*◌, ◌≤◌, ◌<◌, ◌^◌}
use native.Mathlib.Nat.{sub-zero}
use native.Mathlib.Numerals.{add-one}
use native.Mathlib.Omega.{arith}
use mathlib.Core.Path.{◌≡◌, refl, sym, ap, ◌∙◌}
use mathlib.Core.Option.{some}
use mathlib.Core.List.{List, [], ◌∷◌}
use mir.Val.{Fits}
use mir.Syntax.{w64}
use lib.ListN.{length, get_or, drop, drop_of_length-le}
use lib.Seq.{drop-cons}
use Rattle.lists.proofs.Cases.{one_left}
use Rattle.words.specs.Table.{ids, where_is, Found, At, Nothing}
use Rattle.words.proofs.TableLaws as Rows
use Rattle.answers.specs.declared.Refusal.{Refusal}
use Rattle.answers.specs.Answer.{Judged, Accepted, Refused}
use Rattle.types.specs.declared.records.Side.{Side}
use Rattle.types.specs.declared.records.Side.TheVariants.{Parents, Children}
use Rattle.rules.specs.Model.{Segment, lookup}
use Rattle.rules.specs.Tables.{held_width, parents_at, children_at, start_of, segments_from, held_segments}
use Rattle.rules.specs.Edges.{parent_found, parent_known, parent_rule, child_found, child_known, child_rule, parents_rule, children_rule, links_rule, links_from}
use Rattle.rules.proofs.Places.{start-next, start-room}
use Rattle.tabled.specs.Image.{Tabled, segment_in, segment_found}
use Rattle.tabled.proofs.ByRow.{lookup-found}
use Rattle.lookups.specs.Sides.{side_of}
use Rattle.edges.specs.Links.{Tells, id_at, dangling, edge_at, edge_where, each, row_links, rows_links}

-- ---- one edge: what was found

pub row_below : (table : List ℕ) (n x r : ℕ) (f : Found) → f ≡ where_is (ids table held_width n) x → f ≡ At r → r < n
row_below table n x r f said told = (Rows.row-found table held_width n x r (sym said ∙ told)).0

module _ (side : Side) (table pairs : List ℕ) (n i x : ℕ) (f : Found) (said : f ≡ where_is (ids table held_width n) x) where
  pub edge_told : (r : ℕ) (v : Judged) → f ≡ At r → v ≡ edge_at side table pairs i r → v ≡ edge_where side table pairs i x (where_is (ids table held_width n) x)
  edge_told r v told e = rw (← said, told, e)

  pub edge_nowhere : (v : Refusal) → f ≡ Nothing → v ≡ dangling side (id_at table i) x → Refused v ≡ edge_where side table pairs i x (where_is (ids table held_width n) x)
  edge_nowhere v told e = rw (← said, told, e)

-- ---- the loop over one list

module _ (rule : ℕ → Judged) (l : List ℕ) (i : ℕ) (rest : each rule l ≡ each rule (drop i l)) where
  pub each_end : length l ≤ i → Accepted ≡ each rule l
  unfolding each
  each_end h = rw (rest, drop_of_length-le l h)

  module _ (below : i < length l) (x : Judged) (said : x ≡ rule (get_or l i 0)) where
    pub each_refused : (r : Refusal) → x ≡ Refused r → x ≡ each rule l
    unfolding each
    each_refused r told = rw (rest, drop-cons l i 0 below, ← said, told)

    pub each_next : x ≡ Accepted → each rule l ≡ each rule (drop (i + 1) l)
    unfolding each
    each_next told = rw (rest, add-one, drop-cons l i 0 below, ← said, told)

each_same : (f g : ℕ → Judged) → ((x : ℕ) → f x ≡ g x) → (l : List ℕ) → each f l ≡ each g l
unfolding each
each_same f g h [] = refl
each_same f g h (x ∷ xs) = rw (h x, each_same f g h xs)

parents-each : (S : List Segment) (s : Segment) (l : List ℕ) → each (parent_rule S s) l ≡ parents_rule S s l
unfolding each parents_rule
parents-each S s [] = refl
parents-each S s (x ∷ xs) = rw (parents-each S s xs)

children-each : (S : List Segment) (s : Segment) (l : List ℕ) → each (child_rule S s) l ≡ children_rule S s l
unfolding each children_rule
children-each S s [] = refl
children-each S s (x ∷ xs) = rw (children-each S s xs)

-- ---- the loop over the rows

module _ (table edges cpairs ppairs : List ℕ) (n : ℕ) where
  pub links-start : rows_links table edges n cpairs ppairs n 0 0 ≡ rows_links table edges n cpairs ppairs (n - 0) 0 0
  links-start = simp sub-zero

  module _ (i at : ℕ) (rest : rows_links table edges n cpairs ppairs n 0 0 ≡ rows_links table edges n cpairs ppairs (n - i) i at) where
    pub links_end : n ≤ i → Accepted ≡ rows_links table edges n cpairs ppairs n 0 0
    unfolding rows_links
    links_end h = let e : n - i ≡ 0 = omega arith in rw (rest, e)

    module _ (below : i < n) (x : Judged) (said : x ≡ row_links table edges n cpairs ppairs i at) where
      pub links-refused : (r : Refusal) → x ≡ Refused r → x ≡ rows_links table edges n cpairs ppairs n 0 0
      unfolding rows_links
      links-refused r told = rw (rest, one_left n i below, ← said, told)

      pub links-next : x ≡ Accepted → rows_links table edges n cpairs ppairs n 0 0 ≡ rows_links table edges n cpairs ppairs (n - (i + 1)) (i + 1) (at + parents_at table (i * held_width) + children_at table (i * held_width))
      unfolding rows_links
      links-next told = rw (rest, one_left n i below, ← said, told)

-- ---- the rule book

module _ (table edges : List ℕ) (n : ℕ) (t : Tabled table edges n) (cpairs ppairs : List ℕ) (kc kp : ℕ) (cs : Tells (side_of Children) (held_segments table edges n) cpairs kc) (ps : Tells (side_of Parents) (held_segments table edges n) ppairs kp) where
  abbrev S : List Segment
  S = held_segments table edges n

  -- the row that was found is the segment of its id
  at_row : (x r : ℕ) → where_is (ids table held_width n) x ≡ At r → lookup (id_at table r) S ≡ some (segment_in table edges r)
  at_row x r e =
      let q : id_at table r ≡ x = (Rows.row-found table held_width n x r e).1 in
      ap (λ (k : ℕ). lookup k S) q ∙ (lookup-found table edges x n ∙ ap (segment_found table edges) e)

  parent-told : (i x : ℕ) → edge_where Parents table cpairs i x (where_is (ids table held_width n) x) ≡ parent_rule S (segment_in table edges i) x
  unfolding parent_rule parent_known edge_at parent_found
  parent-told i x = go (where_is (ids table held_width n) x) refl ∙ ap (parent_known (segment_in table edges i) x) (sym (lookup-found table edges x n))
    where
      go : (f : Found) → where_is (ids table held_width n) x ≡ f → edge_where Parents table cpairs i x f ≡ parent_known (segment_in table edges i) x (segment_found table edges f)
      go Nothing e = refl
      go (At r) e = rw (cs.tells (id_at table r) (id_at table i) (segment_in table edges r) (at_row x r e))

  child-told : (i x : ℕ) → edge_where Children table ppairs i x (where_is (ids table held_width n) x) ≡ child_rule S (segment_in table edges i) x
  unfolding child_rule child_known edge_at child_found
  child-told i x = go (where_is (ids table held_width n) x) refl ∙ ap (child_known (segment_in table edges i) x) (sym (lookup-found table edges x n))
    where
      go : (f : Found) → where_is (ids table held_width n) x ≡ f → edge_where Children table ppairs i x f ≡ child_known (segment_in table edges i) x (segment_found table edges f)
      go Nothing e = refl
      go (At r) e = rw (ps.tells (id_at table r) (id_at table i) (segment_in table edges r) (at_row x r e))

  row_told : (i : ℕ) → row_links table edges n cpairs ppairs i (start_of held_width table i) ≡ links_rule S (segment_in table edges i)
  unfolding row_links links_rule
  row_told i =
      let a = each_same _ _ (parent-told i) (segment_in table edges i).parents ∙ parents-each S (segment_in table edges i) (segment_in table edges i).parents in
      let b = each_same _ _ (child-told i) (segment_in table edges i).children ∙ children-each S (segment_in table edges i) (segment_in table edges i).children in
      rw (a, b)

  rows_told : (m i : ℕ) → rows_links table edges n cpairs ppairs m i (start_of held_width table i) ≡ links_from S (segments_from held_width table edges m i (start_of held_width table i))
  unfolding rows_links links_from
  rows_told zero i = refl
  rows_told (suc m) i =
      let next : rows_links table edges n cpairs ppairs m (i + 1) (start_of held_width table i + parents_at table (i * held_width) + children_at table (i * held_width))
      ≡ links_from S (segments_from held_width table edges m (i + 1) (start_of held_width table i + parents_at table (i * held_width) + children_at table (i * held_width))) =
      rw (← start-next held_width table i) (rows_told m (i + 1)) in
      rw (row_told i, next)

  pub links-told : rows_links table edges n cpairs ppairs n 0 0 ≡ links_from S S
  links-told = rows_told n 0

-- ---- what the loop's needs ask

module _ (table edges : List ℕ) (n : ℕ) (t : Tabled table edges n) (i at : ℕ) (here : at ≡ start_of held_width table i) (below : i < n) where
  pub row_room : at + parents_at table (i * held_width) + children_at table (i * held_width) ≤ length edges
  row_room = omega (arith, start-room held_width table n i (length edges) t.counts below)

  pub parents-fit : length edges < 2 ^ 64 → Fits w64 (at + parents_at table (i * held_width))
  parents-fit h = record { fits = omega (arith, row_room) }

  pub row_fits : length edges < 2 ^ 64 → Fits w64 (at + parents_at table (i * held_width) + children_at table (i * held_width))
  row_fits h = record { fits = omega (arith, row_room) }

  pub next_start : at + parents_at table (i * held_width) + children_at table (i * held_width) ≡ start_of held_width table (i + 1)
  next_start = rw (here, start-next held_width table i)
