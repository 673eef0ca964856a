-- What the stores of the walk make of its words in the work area:
--     set-inside, set_past, set-ahead, part-more     a word stored in a part, past it, before it, at its end
--     bare_step       an id without a row read
--     row_step        a row reached
--     meet-asks, meet-found, meet-nothing     both, as `meet_parent` does them
--     starts-kept                             where the edges of the rows begin
-- Assumes nothing.
use Prim.Native.Nat.{ℕ, ◌+◌, ◌-◌, ◌*◌, ◌<◌, ◌≤◌}
use native.Mathlib.Omega.{arith}
use native.Mathlib.Numerals.{add-one}
use mathlib.Core.Path.{◌≡◌, refl, sym, ap, ◌∙◌}
use mathlib.Core.Bool.{Bool, true, false, cond}
use mathlib.Core.Logic.{⊎_elim}
use mathlib.Core.List.{List, [], ◌∷◌, ◌++◌}
use borrow.Author.Tests.{eqb-true}
use lib.Dec.{eqb}
use lib.ListN.{length, get_or, set, take, drop, length-append, length-set, length-drop, get_or-append}
use lib.Seq.{take-set-le, take-set-lt, drop-set-lt, drop-set-add, take-suc-set, get_or-set_same, get_or-set_other, get_or_at, ext_get_or}
use Rattle.lists.proofs.Cases.{lt-or-le}
use Rattle.words.specs.Part.{part}
use Rattle.words.specs.Table.{ids, where_is, Found, At, Nothing}
use Rattle.words.proofs.PartLaws.{part_length, part_at}
use Rattle.words.proofs.TableLaws.{length_ids, ids_at, row-found}
use Rattle.rules.specs.Tables.{held_width}
use Rattle.tabled.proofs.Kept.{word_kept}
use Rattle.walk.specs.Met.{Met, met, meet_row, meet, MetOnce, marks_in, list_in, bare_in, met_in, StartsIn}
use Rattle.walk.proofs.Meeting.{room}

module _ (w : List ℕ) (a n v : ℕ) where
  pub set-inside : (i : ℕ) → i < n → part (set w (a + i) v) a n ≡ set (part w a n) i v
  set-inside i h = ap (take n) (drop-set-add a w i v) ∙ take-set-lt n (drop a w) i v h

  pub set_past : (k : ℕ) → a + n ≤ k → part (set w k v) a n ≡ part w a n
  set_past k h =
      let e : a + (k - a) ≡ k = omega arith in
      let d : drop a (set w k v) ≡ set (drop a w) (k - a) v = rw e at (drop-set-add a w (k - a) v) in
      ap (take n) d ∙ take-set-le n (drop a w) (k - a) v (omega arith)

  pub set-ahead : (k : ℕ) → k < a → part (set w k v) a n ≡ part w a n
  set-ahead k h = ap (take n) (drop-set-lt a w k v h)

pub part-more : (w : List ℕ) (a i v : ℕ) → a + i < length w → part (set w (a + i) v) a (i + 1) ≡ part w a i ++ (v ∷ [])
part-more w a i v h = rw (add-one, drop-set-add a w i v) (take-suc-set (drop a w) i v (rw length-drop (omega arith)))

-- the first words of m rows, and one more
ids_more : (t : List ℕ) (m p : ℕ) → m * 3 < length t → ids (set t (m * 3) p) 3 (m + 1) ≡ ids t 3 m ++ (p ∷ [])
ids_more t m p h =
    ext_get_or 0 (ids (set t (m * 3) p) 3 (m + 1)) (ids t 3 m ++ (p ∷ []))
    (length_ids (set t (m * 3) p) 3 (m + 1) ∙ sym (length-append (ids t 3 m) (p ∷ []) ∙ ap (λ (k : ℕ). k + 1) (length_ids t 3 m)))
    (λ i k. at i (rw length_ids at k))
  where
    old : (i : ℕ) → i < m → get_or (ids (set t (m * 3) p) 3 (m + 1)) i 0 ≡ get_or (ids t 3 m ++ (p ∷ [])) i 0
    old i k =
        ids_at (set t (m * 3) p) 3 (m + 1) i (omega arith)
        ∙ get_or-set_other t (m * 3) (i * 3) p 0 (λ e. omega arith)
        ∙ sym (get_or-append (ids t 3 m) (p ∷ []) 0 i (rw length_ids k) ∙ ids_at t 3 m i k)

    last : (i : ℕ) → i ≡ m → get_or (ids (set t (m * 3) p) 3 (m + 1)) i 0 ≡ get_or (ids t 3 m ++ (p ∷ [])) i 0
    last i e =
        rw e
        (ids_at (set t (m * 3) p) 3 (m + 1) m (omega arith)
        ∙ get_or-set_same t (m * 3) p 0 h
        ∙ sym (get_or_at (ids t 3 m) p [] 0 m (length_ids t 3 m)))

    at : (i : ℕ) → i < m + 1 → get_or (ids (set t (m * 3) p) 3 (m + 1)) i 0 ≡ get_or (ids t 3 m ++ (p ∷ [])) i 0
    at i k = ⊎_elim (λ (l : i < m). old i l) (λ (l : m ≤ i). last i (omega arith)) (lt-or-le i m)

met-eq : {m m' l l' r r' : List ℕ} → m ≡ m' → l ≡ l' → r ≡ r' → met m l r ≡ met m' l' r'
met-eq p q e = λ i. record { mark = p i; list = q i; bare = e i }

-- ---- an id without a row read

module _ (n len k p : ℕ) (w : List ℕ) (ln : len ≤ n) (big : 3 * n + 3 * k < length w) where
  bare_step : met_in n len (k + 1) (set w (3 * n + 3 * k) p) ≡ met (marks_in n w) (list_in n len w) (bare_in n k w ++ (p ∷ []))
  bare_step =
      let e : 3 * k ≡ k * 3 = omega arith in
      let r : bare_in n (k + 1) (set w (3 * n + 3 * k) p) ≡ bare_in n k w ++ (p ∷ []) =
      rw (drop-set-add (3 * n) w (3 * k) p, e) (ids_more (drop (3 * n) w) k p (rw length-drop (omega arith))) in
      met-eq (set_past w n n p (3 * n + 3 * k) (omega arith)) (set_past w (2 * n) len p (3 * n + 3 * k) (omega arith)) r

  bare-front : take n (set w (3 * n + 3 * k) p) ≡ take n w
  bare-front = take-set-le n w (3 * n + 3 * k) p (omega arith)

-- ---- a row reached

module _ (n len k p r : ℕ) (w : List ℕ) (rn : r < n) (big : 3 * n ≤ length w) where
  abbrev marked : List ℕ
  marked = set w (n + r) 1

  abbrev stored : List ℕ
  stored = set marked (2 * n + len) r

  row_old : met_in n len k marked ≡ met (set (marks_in n w) r 1) (list_in n len w) (bare_in n k w)
  row_old =
      met-eq (set-inside w n n 1 r rn) (set-ahead w (2 * n) len 1 (n + r) (omega arith))
      (ap (λ (l : List ℕ). ids l 3 k) (drop-set-lt (3 * n) w (n + r) 1 (omega arith)))

  row_new : len < n → met_in n (len + 1) k stored ≡ met (set (marks_in n w) r 1) (list_in n len w ++ (r ∷ [])) (bare_in n k w)
  row_new ln =
      let a : marks_in n stored ≡ marks_in n marked = set_past marked n n r (2 * n + len) (omega arith) in
      let b : list_in n (len + 1) stored ≡ list_in n len marked ++ (r ∷ []) = part-more marked (2 * n) len r (rw length-set (omega arith)) in
      let c : bare_in n k stored ≡ bare_in n k marked = ap (λ (l : List ℕ). ids l 3 k) (drop-set-lt (3 * n) marked (2 * n + len) r (omega arith)) in
      met-eq (a ∙ ap (λ (s : Met). s.mark) row_old) (b ∙ ap (λ (s : Met). s.list ++ (r ∷ [])) row_old) (c ∙ ap (λ (s : Met). s.bare) row_old)

  mark-read : get_or (marks_in n w) r 0 ≡ get_or w (n + r) 0
  mark-read = part_at w n n r rn

  old-front : take n marked ≡ take n w
  old-front = take-set-le n w (n + r) 1 (omega arith)

  -- what `add_row` does is what `meet_row` says
  row_step : (w' : List ℕ) (len' : ℕ) → (get_or w (n + r) 0 ≡ 0 → len < n) → w' ≡ cond (eqb (get_or w (n + r) 0) 0) stored marked → len' ≡ cond (eqb (get_or w (n + r) 0) 0) (len + 1) len
      → len ≤ n → (met_in n len' k w' ≡ meet_row (At r) p (met_in n len k w)) × (len' ≤ n) × (take n w' ≡ take n w)
  row_step w' len' h ew el ln = rw (ew, el, mark-read) (go (eqb (get_or w (n + r) 0) 0) refl)
    where
      go : (b : Bool) → eqb (get_or w (n + r) 0) 0 ≡ b
          → (met_in n (cond b (len + 1) len) k (cond b stored marked) ≡ met (set (marks_in n w) r 1) (cond b (list_in n len w ++ (r ∷ [])) (list_in n len w)) (bare_in n k w))
          × (cond b (len + 1) len ≤ n) × (take n (cond b stored marked) ≡ take n w)
      go true e = let l : len < n = h (eqb-true _ _ e) in (row_new l, omega arith, take-set-le n marked (2 * n + len) r (omega arith) ∙ old-front)
      go false e = (row_old, ln, old-front)

-- ---- p is read: f is where its row was found

module _ (rows : List ℕ) (n len k p : ℕ) (w : List ℕ) (ln : len ≤ n) (big : 3 * n + 3 * k < length w) (h : MetOnce n (met_in n len k w)) (f : Found) (is : f ≡ where_is (ids rows held_width n) p) where
  below : (r : ℕ) → f ≡ At r → r < n
  below r e = (row-found rows held_width n p r (sym is ∙ e)).0

  pub meet-asks : (r : ℕ) → f ≡ At r → ((r < n) × (3 * n ≤ length w)) × (get_or w (n + r) 0 ≡ 0 → len < n)
  meet-asks r e = (
    (below r e, omega arith),
    λ z.
        let b : length (list_in n len w) ≡ len = part_length w (2 * n) len (omega arith) in
        omega (arith, room n (met_in n len k w) h r (below r e) (part_at w n n r (below r e) ∙ z)),
  )

  pub meet-found : (r : ℕ) (w' : List ℕ) (len' : ℕ) → f ≡ At r
      → (w' ≡ cond (eqb (get_or w (n + r) 0) 0) (set (set w (n + r) 1) (2 * n + len) r) (set w (n + r) 1)) × (len' ≡ cond (eqb (get_or w (n + r) 0) 0) (len + 1) len)
      → (met_in n len' k w' ≡ meet (ids rows held_width n) p (met_in n len k w)) × (len' ≤ n) × (k ≤ k + 1) × (take n w' ≡ take n w)
  meet-found r w' len' e g =
      let s = row_step n len k p r w (below r e) (omega arith) w' len' (meet-asks r e).1 g.0 g.1 ln in
      (s.0 ∙ sym (ap (λ (q : Found). meet_row q p (met_in n len k w)) (sym is ∙ e)), s.1, omega arith, s.2)

  pub meet-nothing : f ≡ Nothing
      → (met_in n len (k + 1) (set w (3 * n + 3 * k) p) ≡ meet (ids rows held_width n) p (met_in n len k w)) × (len ≤ n) × (k + 1 ≤ k + 1) × (take n (set w (3 * n + 3 * k) p) ≡ take n w)
  meet-nothing e = (bare_step n len k p w ln big ∙ sym (ap (λ (q : Found). meet_row q p (met_in n len k w)) (sym is ∙ e)), ln, omega arith, bare-front n len k p w ln big)

-- ---- where the edges of the rows begin

pub starts-kept : (rows : List ℕ) (n : ℕ) (w w' : List ℕ) → take n w' ≡ take n w → StartsIn rows n w → StartsIn rows n w'
starts-kept rows n w w' e s i h = word_kept w' w n e i h ∙ s i h
