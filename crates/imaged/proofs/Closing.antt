-- Where 24 to 27 accept, every edge word is the id of a row: it is a parent or a child of the row in whose stretch it lies.
-- The row is found by induction on the rows. Assumes nothing.
use Prim.Native.Nat.{ℕ, zero, suc, ◌+◌, ◌-◌, ◌*◌, ◌≤◌, ◌<◌}
use native.Mathlib.Omega.{arith}
use mathlib.Core.Path.{◌≡◌, refl, sym, ap, ◌∙◌}
use mathlib.Core.Option.{none, some}
use mathlib.Core.Logic.{◌⊎◌, inl, inr}
use mathlib.Core.List.{List}
use lib.ListN.{length, get_or}
use Rattle.lists.specs.Lists.{◌∈◌}
use Rattle.lists.proofs.Cases.{lt-or-le}
use Rattle.lists.proofs.HasAt.{has-at}
use Rattle.words.specs.Table.{ids, where_is, Found, At, Nothing}
use Rattle.words.proofs.PartLaws.{part_at}
use Rattle.words.proofs.TableLaws.{length_ids, ids_at, is_at}
use Rattle.rules.specs.Model.{Segment, lookup}
use Rattle.rules.specs.Tables.{held_width, parents_at, children_at, edges_from, start_of, stretch, held_segments}
use Rattle.rules.specs.Edges.{links_from}
use Rattle.rules.proofs.Places.{start-next, start-room, length-stretch}
use Rattle.rules.proofs.Accepts.{parents-known, children-known}
use Rattle.tabled.specs.Image.{Tabled, segment_in, segment_found}
use Rattle.tabled.proofs.ByRow.{lookup-found}
use Rattle.held.specs.declared.Held.{Held}
use Rattle.held.specs.Front.{segments_of}
use Rattle.ordered.specs.Left.{Closed}
use Rattle.answers.specs.Answer.{Accepted}

-- the row in whose stretch place k of the edges lies
record Row (rows : List ℕ) (n k : ℕ) : Type 0 where
  row : ℕ
  below : row < n
  from : start_of held_width rows row ≤ k
  to : k < start_of held_width rows row + parents_at rows (row * held_width) + children_at rows (row * held_width)

row_of : (rows : List ℕ) (n k m i : ℕ) → i + m ≡ n → start_of held_width rows i ≤ k → k < start_of held_width rows i + edges_from held_width rows m i → Row rows n k
row_of rows n k zero i e a b = absurd (omega arith)
row_of rows n k (suc m) i e a b = go (row_of rows n k m (i + 1) (omega arith)) (lt-or-le k (start_of held_width rows i + parents_at rows (i * held_width) + children_at rows (i * held_width)))
  where
    go : (start_of held_width rows (i + 1) ≤ k → k < start_of held_width rows (i + 1) + edges_from held_width rows m (i + 1) → Row rows n k)
        → (k < start_of held_width rows i + parents_at rows (i * held_width) + children_at rows (i * held_width))
        ⊎ (start_of held_width rows i + parents_at rows (i * held_width) + children_at rows (i * held_width) ≤ k) → Row rows n k
    go ih (inl h) = record { row = i; below = omega arith; from = a; to = h }
    go ih (inr h) = ih (omega (arith, start-next held_width rows i)) (omega (arith, start-next held_width rows i))

-- a place of a stretch
in-stretch : (l : List ℕ) (from m k : ℕ) → from + m ≤ length l → from ≤ k → k < from + m → get_or l k 0 ∈ stretch l from (from + m)
in-stretch l from m k fits a b =
    let size : from + m - from ≡ m = omega arith in
    let place : from + (k - from) ≡ k = omega arith in
    has-at (get_or l k 0) (stretch l from (from + m)) (k - from) (rw (length-stretch l from m fits) (omega arith))
    (rw size (part_at l from m (k - from) (omega arith)) ∙ ap (λ (j : ℕ). get_or l j 0) place)

module _ (rows edges : List ℕ) (n : ℕ) (g : Tabled rows edges n) (linked : links_from (held_segments rows edges n) (held_segments rows edges n) ≡ Accepted) where
  abbrev S : List Segment
  S = held_segments rows edges n

  -- row i is what its id leads to
  row-id : (i : ℕ) → i < n → lookup (get_or rows (i * held_width) 0) S ≡ some (segment_in rows edges i)
  row-id i h =
      let x : ℕ = get_or rows (i * held_width) 0 in
      let size : length (ids rows held_width n) ≡ n = length_ids rows held_width n in
      let place : i < length (ids rows held_width n) = omega arith in
      let here : get_or (ids rows held_width n) i 0 ≡ x = ids_at rows held_width n i h in
      let at : where_is (ids rows held_width n) x ≡ At i = is_at (ids rows held_width n) x i place here (λ j below e. omega (arith, g.up j i below place)) in
      lookup-found rows edges x n ∙ ap (segment_found rows edges) at

  -- an id that leads to a segment leads to a row
  row-known : (x : ℕ) (s : Segment) (f : Found) → f ≡ where_is (ids rows held_width n) x → lookup x S ≡ some s → (r : ℕ) × (where_is (ids rows held_width n) x ≡ At r)
  row-known x s (At r) e found = (r, sym e)
  row-known x s Nothing e found =
      let a : none ≡ some s = ap (segment_found rows edges) e ∙ sym (lookup-found rows edges x n) ∙ found in
      let z : ◌≡◌ {A = ℕ} 0 1 = cc in
      absurd (omega arith)

  module _ (k i : ℕ) (below : i < n) where
    abbrev start : ℕ
    start = start_of held_width rows i

    abbrev parents : ℕ
    parents = parents_at rows (i * held_width)

    abbrev children : ℕ
    children = children_at rows (i * held_width)

    room : start + parents + children ≤ length edges
    room = start-room held_width rows n i (length edges) g.counts below

    edge-known : start ≤ k → k < start + parents + children → (k < start + parents) ⊎ (start + parents ≤ k) → (r : ℕ) × (where_is (ids rows held_width n) (get_or edges k 0) ≡ At r)
    edge-known from to (inl h) =
        let q = parents-known S linked (get_or rows (i * held_width) 0) (segment_in rows edges i) (row-id i below) (get_or edges k 0) (in-stretch edges start parents k (omega (arith, room)) from h) in
        row-known (get_or edges k 0) q.0 (where_is (ids rows held_width n) (get_or edges k 0)) refl q.1
    edge-known from to (inr h) =
        let q = children-known S linked (get_or rows (i * held_width) 0) (segment_in rows edges i) (row-id i below) (get_or edges k 0) (in-stretch edges (start + parents) children k room h to) in
        row-known (get_or edges k 0) q.0 (where_is (ids rows held_width n) (get_or edges k 0)) refl q.1

  edges-known : (k : ℕ) → k < length edges → (r : ℕ) × (where_is (ids rows held_width n) (get_or edges k 0) ≡ At r)
  edges-known k h =
      let p : Row rows n k = row_of rows n k n 0 (omega arith) (omega arith) (omega (arith, g.counts)) in
      edge-known k p.row p.below p.from p.to (lt-or-le k (start_of held_width rows p.row + parents_at rows (p.row * held_width)))

pub closed : (held : Held) → links_from (segments_of held) (segments_of held) ≡ Accepted → Closed held
closed held linked k h = edges-known held.rows.now held.edges.now held.count held.tabled linked k h
