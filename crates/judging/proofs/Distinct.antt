-- An id that stands twice is refused: what the accepted placements (6) and the accepted rows (8) say of their ids. Each rule walks a list and
-- asks whether an id is among those before, so both give `Fresh`, and `Fresh` keeps any two ids apart. Assumes nothing.
use Prim.Native.Nat.{ℕ, zero, suc, ◌+◌, ◌*◌, ◌<◌}
use native.Mathlib.Nat.{add-zero, zero-add, not-suc-le-zero, le_of_suc-le-suc}
use native.Mathlib.Omega.{arith}
use mathlib.Core.Path.{◌≡◌, refl, sym, ap, ◌∙◌}
use mathlib.Core.Bool.{Bool, true, ◌||◌, true≢false, or-false, or-true, or_assoc}
use mathlib.Core.List.{List, [], ◌∷◌, ◌++◌, map}
use borrow.Author.Tests.{eq-eqb}
use lib.ListN.{length, get_or}
use lib.Dec.{eqb}
use Rattle.answers.proofs.Judging.{or_left, then-left, then-right, when-not}
use Rattle.lists.specs.Lists.{has, ◌∉◌}
use Rattle.rules.specs.Model.{Segment, Placement, ids_of}
use Rattle.rules.specs.Tables.{row_width, place_width, parents_at, children_at, segments_from, segments, placements_from, placements}
use Rattle.rules.specs.Rows.{counted_rule, rows_from, rows_rule, places_from, placements_rule}
use Rattle.words.specs.Twins.{NoTwins}
use Rattle.answers.specs.Answer.{Accepted}

-- none of the ids is among `seen` or the ids before it
abbrev Fresh : List ℕ → List ℕ → Type 0
Fresh seen [] = Unit {0}
Fresh seen (x ∷ xs) = (x ∉ seen) × Fresh (seen ++ (x ∷ [])) xs

-- ---- the ids of a list that is fresh

has-snoc : (x : ℕ) (l : List ℕ) (y : ℕ) → has x (l ++ (y ∷ [])) ≡ has x l || eqb y x
has-snoc x [] y = or-false (eqb y x)
has-snoc x (z ∷ l) y = ap (λ (b : Bool). eqb z x || b) (has-snoc x l y) ∙ sym (or_assoc (eqb z x) (has x l) (eqb y x))

not_seen : (seen xs : List ℕ) → Fresh seen xs → (q : ℕ) → q < length xs → get_or xs q 0 ∉ seen
not_seen seen [] f q h = absurd (not-suc-le-zero h)
not_seen seen (x ∷ xs) f zero h = f.0
not_seen seen (x ∷ xs) f (suc q) h =
    or_left (has (get_or xs q 0) seen) (eqb x (get_or xs q 0)) (sym (has-snoc (get_or xs q 0) seen x) ∙ not_seen (seen ++ (x ∷ [])) xs f.1 q (le_of_suc-le-suc h))

apart : (seen xs : List ℕ) → Fresh seen xs → (p q : ℕ) → p < q → q < length xs → get_or xs p 0 ≡ get_or xs q 0 → ⊥
apart seen [] f p q h k e = not-suc-le-zero k
apart seen (x ∷ xs) f p zero h k e = not-suc-le-zero h
apart seen (x ∷ xs) f zero (suc q) h k e =
    let there : has (get_or xs q 0) (seen ++ (x ∷ [])) ≡ true = rw (has-snoc (get_or xs q 0) seen x, eq-eqb x (get_or xs q 0) e, or-true) in
    true≢false (sym there ∙ not_seen (seen ++ (x ∷ [])) xs f.1 q (le_of_suc-le-suc k))
apart seen (x ∷ xs) f (suc p) (suc q) h k e = apart (seen ++ (x ∷ [])) xs f.1 p q (le_of_suc-le-suc h) (le_of_suc-le-suc k) e

-- a table whose ids are fresh has no twins
none-twice : (table : List ℕ) (width n : ℕ) (xs : List ℕ) → Fresh [] xs → length xs ≡ n → ((k : ℕ) → k < n → get_or xs k 0 ≡ get_or table (k * width) 0) → NoTwins table width n
none-twice table width n xs f len each i j h k e =
    apart [] xs f i j h (rw len k) (each i (omega arith) ∙ e ∙ sym (each j k))

-- ---- placements

places-fresh : (seen : List ℕ) (ps : List Placement) → places_from seen ps ≡ Accepted → Fresh seen (map (λ (p : Placement). p.id) ps)
unfolding places_from
places-fresh seen [] e = tt
places-fresh seen (p ∷ ps) e =
    let rest : places_from (seen ++ (p.id ∷ [])) ps ≡ Accepted = search then-right in
    (search (when-not, then-left), places-fresh (seen ++ (p.id ∷ [])) ps rest)

place-ids : (places : List ℕ) (n i k : ℕ) → k < n → get_or (map (λ (p : Placement). p.id) (placements_from places n i)) k 0 ≡ get_or places ((i + k) * place_width) 0
place-ids places zero i k h = absurd (not-suc-le-zero h)
place-ids places (suc n) i zero h = rw (add-zero i)
place-ids places (suc n) i (suc k) h = let e : i + 1 + k ≡ i + suc k = omega arith in rw (← e) (place-ids places n (i + 1) k (le_of_suc-le-suc h))

place-count : (places : List ℕ) (n i : ℕ) → length (map (λ (p : Placement). p.id) (placements_from places n i)) ≡ n
place-count places zero i = refl
place-count places (suc n) i = ap suc (place-count places n (i + 1))

pub places-distinct : (places : List ℕ) (m : ℕ) → placements_rule (placements places m) ≡ Accepted → NoTwins places place_width m
unfolding placements_rule
places-distinct places m e =
    none-twice places place_width m (map (λ (p : Placement). p.id) (placements places m)) (places-fresh [] (placements places m) e) (place-count places m 0)
    (λ k h. place-ids places m 0 k h ∙ ap (λ (r : ℕ). get_or places (r * place_width) 0) (zero-add k))

-- ---- segment rows

rows-fresh : (layout limit : ℕ) (seen : List ℕ) (parents children : ℕ) (ss : List Segment) → rows_from layout limit seen parents children ss ≡ Accepted → Fresh seen (ids_of ss)
unfolding rows_from counted_rule
rows-fresh layout limit seen parents children [] e = tt
rows-fresh layout limit seen parents children (s ∷ ss) e =
    let p : ℕ = parents + length s.parents in
    let c : ℕ = children + length s.children in
    let rest : rows_from layout limit (seen ++ (s.head.id ∷ [])) p c ss ≡ Accepted = search then-right in
    (search (when-not, then-left), rows-fresh layout limit (seen ++ (s.head.id ∷ [])) p c ss rest)

row-ids : (rows edges : List ℕ) (n i place k : ℕ) → k < n → get_or (ids_of (segments_from row_width rows edges n i place)) k 0 ≡ get_or rows ((i + k) * row_width) 0
row-ids rows edges zero i place k h = absurd (not-suc-le-zero h)
row-ids rows edges (suc n) i place zero h = rw (add-zero i)
row-ids rows edges (suc n) i place (suc k) h =
    let e : i + 1 + k ≡ i + suc k = omega arith in
    rw (← e) (row-ids rows edges n (i + 1) (place + parents_at rows (i * row_width) + children_at rows (i * row_width)) k (le_of_suc-le-suc h))

row_count : (rows edges : List ℕ) (n i place : ℕ) → length (ids_of (segments_from row_width rows edges n i place)) ≡ n
row_count rows edges zero i place = refl
row_count rows edges (suc n) i place = ap suc (row_count rows edges n (i + 1) (place + parents_at rows (i * row_width) + children_at rows (i * row_width)))

pub rows-distinct : (layout limit : ℕ) (rows edges : List ℕ) (n : ℕ) → rows_rule layout limit (segments rows edges n) ≡ Accepted → NoTwins rows row_width n
unfolding rows_rule
rows-distinct layout limit rows edges n e =
    none-twice rows row_width n (ids_of (segments rows edges n)) (rows-fresh layout limit [] 0 0 (segments rows edges n) e) (row_count rows edges n 0 0)
    (λ k h. row-ids rows edges n 0 0 k h ∙ ap (λ (r : ℕ). get_or rows (r * row_width) 0) (zero-add k))
