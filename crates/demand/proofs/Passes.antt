-- The held tables that an accepted layout leaves pass refusal 1 (held-passes), and they are its segments in ascending order (held-are).
-- Flags are written as 0 or 1, hash and state words are those of the input tables, the counts those of the lists, and ids stand once by 8.
-- Assumes nothing.
use Prim.Native.Nat.{ℕ, zero, suc, ◌+◌, ◌*◌, ◌/◌, ◌%◌, ◌≤◌}
use native.Mathlib.Omega.{arith}
use native.Mathlib.Nat.{add-zero}
use mathlib.Core.Path.{◌≡◌, refl, sym, ap, ◌∙◌}
use mathlib.Core.Bool.{Bool, true, false, not, ◌||◌}
use mathlib.Core.Option.{Option, none, some}
use mathlib.Core.List.{List, [], ◌∷◌, ◌++◌, map, append_assoc}
use borrow.Author.Tests.{lt-ltb, le-ltb, eq-eqb}
use lib.Dec.{eqb}
use lib.ListN.{length, get_or, drop, length-append}
use lib.Seq.{get_or-append-add}
use Rattle.lists.specs.Lists.{front}
use Rattle.lists.specs.Sets.{Ascending}
use Rattle.lists.proofs.SetLaws.{here}
use Rattle.lists.proofs.Tests.{any-sorted}
use Rattle.words.specs.Table.{ids, ascending}
use Rattle.answers.proofs.Judging.{or_left, or_right}
use Rattle.types.specs.declared.limits.DagLimits.{DagLimits}
use Rattle.rules.specs.Model.{Head, Segment, Site, Placement, Held, ids_of, id_le, by_id, held_of}
use Rattle.rules.specs.Tables.{row_width, held_width, head_width, head_at, parents_at, children_at, segments_from, held_segments, option_words, head_words, site_words, held_words, rows_of, edges_from, held_rows, held_edges}
use Rattle.rules.specs.Shape.{bad_flag, bad_hash, bad_head, bad_held_row, any_bad, wrong_counts, bad_table, bad_layout, bad_held_rows, bad_held}
use Rattle.rules.specs.Judge.{Tables, Areas, segments_in, placements_in, filled}
use Rattle.rules.proofs.Decode.{head-length, held-length}
use Rattle.rules.proofs.Ascended.{length-by_id}
use Rattle.rules.proofs.Accepts.{by_id-up}
use Rattle.rules.proofs.HeldSegments.{area-segments, area-counts}
use Rattle.rules.proofs.Taken.{times}
use Rattle.shape.proofs.Good.{layout-counts}
use Rattle.tabled.proofs.ByRow.{ids-segments}
use Rattle.image.proofs.HeldWords.{held-rows-size, held-edges-size}
use Rattle.image.proofs.Laid.{length_from}

-- ---- hash and state words

-- a hash or state word of the head exceeds its 32 bits
abbrev wide_head : Head → Bool
wide_head h = bad_hash h.start || (bad_hash h.end || bad_hash h.state)

abbrev wide : List Segment → Bool
wide [] = false
wide (s ∷ l) = wide_head s.head || wide l

-- of rows that are not bad none is
head-narrow : (rows : List ℕ) (w : ℕ) → bad_head rows w ≡ false → wide_head (head_at rows w) ≡ false
unfolding bad_head
head-narrow rows w e =
    by (bad_hash (get_or rows (w + 1) 0)) (bad_hash (get_or rows (w + 2) 0)) (bad_hash (get_or rows (w + 3) 0)) (bad_flag (get_or rows (w + 5) 0) || bad_flag (get_or rows (w + 7) 0)) e
  where
    by : (a b c d : Bool) → a || (b || (c || d)) ≡ false → a || (b || c) ≡ false
    by true b c d q = q
    by false true c d q = q
    by false false true d q = q
    by false false false d q = refl

rows-narrow : (rows edges : List ℕ) (n i at : ℕ) → any_bad bad_head row_width rows n i ≡ false → wide (segments_from row_width rows edges n i at) ≡ false
rows-narrow rows edges zero i at e = refl
rows-narrow rows edges (suc n) i at e =
    let w : ℕ = i * row_width in
    let one : wide_head (head_at rows w) ≡ false = head-narrow rows w (or_left (bad_head rows w) (any_bad bad_head row_width rows n (i + 1)) e) in
    let rest : wide (segments_from row_width rows edges n (i + 1) (at + parents_at rows w + children_at rows w)) ≡ false =
    rows-narrow rows edges n (i + 1) _ (or_right (bad_head rows w) (any_bad bad_head row_width rows n (i + 1)) e) in
    rw (one, rest) refl

-- ---- a held row

-- its words after others
head-after : (pre ys : List ℕ) → bad_head (pre ++ ys) (length pre) ≡ bad_head ys 0
unfolding bad_head
head-after pre ys =
    rw (get_or-append-add pre ys 1 0, get_or-append-add pre ys 2 0, get_or-append-add pre ys 3 0, get_or-append-add pre ys 5 0, get_or-append-add pre ys 7 0) refl

-- flags are written as 0 or 1
head-good : (h : Head) (p c : ℕ) (ys : List ℕ) → wide_head h ≡ false → bad_head (head_words h p c ++ ys) 0 ≡ false
unfolding bad_head
head-good h p c ys e = by h.sealed h.legacy (bad_hash h.start) (bad_hash h.end) (bad_hash h.state) e
  where
    by : (s l : Option ℕ) (a b d : Bool) → a || (b || d) ≡ false
        → a || (b || (d || (bad_flag (get_or ((option_words s ++ (option_words l ++ (p ∷ c ∷ []))) ++ ys) 0 0) || bad_flag (get_or ((option_words s ++ (option_words l ++ (p ∷ c ∷ []))) ++ ys) 2 0)))) ≡ false
    by s l true b d q = q
    by s l false true d q = q
    by s l false false true q = q
    by none none false false false q = refl
    by none (some y) false false false q = refl
    by (some x) none false false false q = refl
    by (some x) (some y) false false false q = refl

site-good : (s : Option Site) (ys : List ℕ) → bad_flag (get_or (site_words s ++ ys) 0 0) || bad_flag (get_or (site_words s ++ ys) 2 0) ≡ false
site-good none ys = refl
site-good (some s) ys = by s.tls
  where
    by : (o : Option ℕ) → bad_flag (get_or ((1 ∷ s.url ∷ option_words o) ++ ys) 0 0) || bad_flag (get_or ((1 ∷ s.url ∷ option_words o) ++ ys) 2 0) ≡ false
    by none = refl
    by (some x) = refl

module _ (h : Head) (p c : ℕ) (site : Option Site) (narrow : wide_head h ≡ false) (pre ys : List ℕ) (w : ℕ) (l : length pre ≡ w) where
  abbrev table : List ℕ
  table = pre ++ (held_words h p c site ++ ys)

  row-good : bad_held_row table w ≡ false
  unfolding bad_held_row
  row-good =
      let whole : table ≡ pre ++ (head_words h p c ++ (site_words site ++ ys)) = ap (λ (t : List ℕ). pre ++ t) (append_assoc (head_words h p c) (site_words site) ys) in
      let behind : table ≡ (pre ++ head_words h p c) ++ (site_words site ++ ys) = simp append_assoc in
      let end : w + head_width ≡ length (pre ++ head_words h p c) = omega (arith, length-append pre (head_words h p c), head-length h p c) in
      let word : (k : ℕ) → get_or table (w + head_width + k) 0 ≡ get_or (site_words site ++ ys) k 0 = λ k.
      rw (end, behind) (get_or-append-add (pre ++ head_words h p c) (site_words site ++ ys) k 0) in
      let first : get_or table (w + head_width) 0 ≡ get_or (site_words site ++ ys) 0 0 = ap (λ (k : ℕ). get_or table k 0) (sym (add-zero (w + head_width))) ∙ word 0 in
      let head : bad_head table w ≡ false = rw (← l, whole) (head-after pre (head_words h p c ++ (site_words site ++ ys)) ∙ head-good h p c (site_words site ++ ys) narrow) in
      rw (head, first, word 2) (site-good site ys)

-- ---- all held rows

rows-good : (ps : List Placement) (S : List Segment) (R u pre : List ℕ) (i : ℕ) → R ≡ pre ++ (rows_of (map (held_of ps) S) ++ u) → length pre ≡ i * held_width
    → wide S ≡ false → any_bad bad_held_row held_width R (length S) i ≡ false
rows-good ps [] R u pre i f a e = refl
rows-good ps (s ∷ S) R u pre i f a e =
    let x : Held = held_of ps s in
    let W : List ℕ = held_words s.head (length s.parents) (length s.children) x.site in
    let l : List ℕ = rows_of (map (held_of ps) S) in
    let r : R ≡ pre ++ (W ++ (l ++ u)) = f ∙ ap (λ (t : List ℕ). pre ++ t) (append_assoc W l u) in
    let one : bad_held_row R (i * held_width) ≡ false =
    rw r (row-good s.head (length s.parents) (length s.children) x.site (or_left (wide_head s.head) (wide S) e) pre (l ++ u) (i * held_width) a) in
    let width : length (pre ++ W) ≡ (i + 1) * held_width = omega (arith, length-append pre W, held-length s.head (length s.parents) (length s.children) x.site) in
    let rest : any_bad bad_held_row held_width R (length S) (i + 1) ≡ false =
    rows-good ps S R u (pre ++ W) (i + 1) (r ∙ sym (append_assoc pre W (l ++ u))) width (or_right (wide_head s.head) (wide S) e) in
    rw (one, rest) refl

-- ---- ids

ascending-is : (l : List ℕ) → Ascending l → ascending l ≡ true
ascending-is [] a = refl
ascending-is (x ∷ []) a = refl
ascending-is (x ∷ y ∷ l) a = rw (lt-ltb x y (a.0 y (here y l))) (ascending-is (y ∷ l) a.1)

-- ---- the tables

front_fits : (xs l : List ℕ) → length xs ≤ length (front xs l)
front_fits xs l = omega (arith, length-append xs (drop (length xs) l))

module _ (limits : DagLimits) (t : Tables) (a : Areas) (good : bad_layout t.rows t.edges t.places ≡ false) where
  abbrev n : ℕ
  n = length t.rows / row_width

  abbrev ss : List Segment
  ss = segments_in t

  abbrev ps : List Placement
  ps = placements_in t

  abbrev held : List ℕ
  held = (filled limits t a).held

  abbrev links : List ℕ
  links = (filled limits t a).links

  many : length ss ≡ n
  many = length_from t.rows t.edges n 0 0

  counts : edges_from row_width t.rows n 0 ≡ length t.edges
  counts = layout-counts t.rows t.edges t.places (bad_layout t.rows t.edges t.places) refl good

  narrow : wide (by_id ss) ≡ false
  unfolding bad_layout bad_table
  narrow =
      let table : bad_table bad_head row_width t.rows ≡ false = or_left _ _ good in
      let rows : any_bad bad_head row_width t.rows n 0 ≡ false = or_right (not (eqb (length t.rows % row_width) 0)) (any_bad bad_head row_width t.rows n 0) table in
      any-sorted id_le wide (λ (s : Segment). wide_head s.head) (λ s l. refl) ss ∙ rows-narrow t.rows t.edges n 0 0 rows

  pub held-are : held_segments held links n ≡ by_id ss
  unfolding filled
  held-are = area-segments ss ps n many (drop (length (held_rows ss ps)) a.held) (drop (length (held_edges ss ps)) a.links)

  fits : n * held_width ≤ length held
  unfolding filled
  fits = omega (arith, front_fits (held_rows ss ps) a.held, held-rows-size t.rows t.edges n counts ps)

  edges_fit : length t.edges ≤ length links
  unfolding filled
  edges_fit = omega (arith, front_fits (held_edges ss ps) a.links, held-edges-size t.rows t.edges n counts ps)

  edges_are : edges_from held_width held n 0 ≡ length t.edges
  unfolding filled
  edges_are = area-counts ss ps n many (drop (length (held_rows ss ps)) a.held) ∙ held-edges-size t.rows t.edges n counts ps

  none-bad : any_bad bad_held_row held_width held n 0 ≡ false
  unfolding filled held_rows
  none-bad =
      sym (ap (λ (k : ℕ). any_bad bad_held_row held_width held k 0) (length-by_id ss ∙ many))
      ∙ rows-good ps (by_id ss) held (drop (length (held_rows ss ps)) a.held) [] 0 refl refl narrow

  up : ((z : ℕ) → times z (ids_of ss) ≤ 1) → ascending (ids held held_width n) ≡ true
  up once = ap ascending (sym (ids-segments held links n) ∙ ap ids_of held-are) ∙ ascending-is (ids_of (by_id ss)) (by_id-up ss once)

  pub held-pass : ((z : ℕ) → times z (ids_of ss) ≤ 1) → bad_held held links n (length t.edges) ≡ false
  unfolding bad_held bad_held_rows wrong_counts
  held-pass once =
      rw (le-ltb (length held) (n * held_width) fits, none-bad, up once, le-ltb (length links) (length t.edges) edges_fit, eq-eqb _ _ edges_are) refl
