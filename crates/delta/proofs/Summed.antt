-- Handover summed row by row: what was summed and what the rows to come add is all of it, and no sum goes above that of all Active rows.
--     handed-any, widths-any, handed-few     widths do not see the edges; what is handed over is no more than all
--     summed-start, summed-next, summed-end     the loop
-- Assumes nothing.
use Prim.Native.Nat.{ℕ, zero, suc, ◌+◌, ◌-◌, ◌*◌, ◌≤◌, ◌<◌}
use native.Mathlib.Nat.{sub-zero}
use native.Mathlib.Omega.{arith}
use mathlib.Core.Path.{◌≡◌, refl, sym, ap, ◌∙◌}
use mathlib.Core.Bool.{Bool, true, false, cond}
use mathlib.Core.List.{List, [], ◌∷◌}
use mir.Val.{Fits}
use mir.Syntax.{w64}
use borrow.Author.Tests.{eq-eqb, ne_eqb}
use lib.Dec.{eqb}
use lib.ListN.{get_or}
use Rattle.lists.specs.Lists.{has}
use Rattle.rules.specs.Model.{Head, Segment}
use Rattle.rules.specs.Tables.{held_width, head_at, parents_at, children_at, segment_at, segments_from}
use Rattle.rules.specs.Delta.{added_from, widths_active}
use Rattle.delta.specs.Bare.{bare}

-- ---- one row

pub width-sealed : (state start end r : ℕ) → (state ≡ 1 → ⊥) → r ≡ 0 → r ≡ cond (eqb state 1) (end - start + 1) 0
width-sealed state start end r n e = rw (ne_eqb state 1 n) e

pub width-active : (state start end r : ℕ) → state ≡ 1 → r ≡ end - start + 1 → r ≡ cond (eqb state 1) (end - start + 1) 0
width-active state start end r a e = rw (eq-eqb state 1 a) e

pub width-reversed : (state start end r : ℕ) → state ≡ 1 → end < start → r ≡ 1 → r ≡ cond (eqb state 1) (end - start + 1) 0
width-reversed state start end r a h e = rw (eq-eqb state 1 a) (omega arith)

pub width_fits : (state start end : ℕ) → cond (eqb state 1) (end - start + 1) 0 ≤ 65536 → state ≡ 1 → Fits w64 (end - start + 1)
width_fits state start end h a = let k : end - start + 1 ≤ 65536 = rw (eq-eqb state 1 a) at h in record { fits = omega arith }

abbrev width_at : List ℕ → ℕ → ℕ
width_at rows w = cond (eqb (get_or rows (w + 3) 0) 1) (get_or rows (w + 2) 0 - get_or rows (w + 1) 0 + 1) 0

module _ (before rows : List ℕ) (w : ℕ) where
  pub one-fits : widths_active (segment_at rows [] w 0 ∷ []) ≤ 65536 → width_at rows w ≤ 65536
  unfolding widths_active
  one-fits h = omega (arith, h)

  module _ (b : Bool) (said : b ≡ has (get_or rows w 0) before) where
    pub handed-none : b ≡ true → (r : ℕ) → r ≡ 0 → r ≡ widths_active (added_from before (segment_at rows [] w 0 ∷ []))
    unfolding added_from widths_active
    handed-none told r e = rw (sym said ∙ told) e

    pub handed-one : b ≡ false → (r : ℕ) → r ≡ width_at rows w → r ≡ widths_active (added_from before (segment_at rows [] w 0 ∷ []))
    unfolding added_from widths_active
    handed-one told r e = rw (sym said ∙ told) (omega (arith, e))

-- ---- all rows

abbrev handed : List ℕ → List Segment → ℕ
handed before ss = widths_active (added_from before ss)

abbrev width : Head → ℕ
width x = cond (eqb x.state 1) (x.end - x.start + 1) 0

abbrev handed_head : List ℕ → Head → ℕ
handed_head before x = cond (has x.id before) 0 (width x)

handed-step : (before : List ℕ) (s : Segment) (ss : List Segment) → handed before (s ∷ ss) ≡ handed_head before s.head + handed before ss
unfolding added_from widths_active
handed-step before s ss = go (has s.head.id before)
  where
    go : (t : Bool) → widths_active (cond t (added_from before ss) (s ∷ added_from before ss)) ≡ cond t 0 (width s.head) + widths_active (added_from before ss)
    go true = omega arith
    go false = refl

no_rows : (before : List ℕ) → handed before [] ≡ 0
unfolding added_from widths_active
no_rows before = refl

-- no more than all
pub handed-few : (before : List ℕ) (ss : List Segment) → handed before ss ≤ widths_active ss
unfolding added_from widths_active
handed-few before [] = omega arith
handed-few before (s ∷ ss) = go (handed-few before ss) (has s.head.id before)
  where
    go : handed before ss ≤ widths_active ss → (t : Bool) → widths_active (cond t (added_from before ss) (s ∷ added_from before ss)) ≤ widths_active (s ∷ ss)
    go ih true = omega arith
    go ih false = omega arith

-- with nothing held before, all is handed over
handed-all : (ss : List Segment) → handed [] ss ≡ widths_active ss
unfolding added_from
handed-all ss = ap widths_active (all ss)
  where
    all : (l : List Segment) → added_from [] l ≡ l
    all [] = refl
    all (s ∷ l) = ap (λ (t : List Segment). s ∷ t) (all l)

module _ (before rows : List ℕ) where
  -- only heads count
  pub handed-any : (edges links : List ℕ) (n i a b : ℕ) → handed before (segments_from held_width rows edges n i a) ≡ handed before (segments_from held_width rows links n i b)
  handed-any edges links zero i a b = refl
  handed-any edges links (suc n) i a b =
      let w : ℕ = i * held_width in
      let p : ℕ = parents_at rows w in
      let c : ℕ = children_at rows w in
      handed-step before (segment_at rows edges w a) (segments_from held_width rows edges n (i + 1) (a + p + c))
      ∙ ap (λ (k : ℕ). handed_head before (head_at rows w) + k) (handed-any edges links n (i + 1) (a + p + c) (b + p + c))
      ∙ sym (handed-step before (segment_at rows links w b) (segments_from held_width rows links n (i + 1) (b + p + c)))

-- the same of all widths
pub widths-any : (rows edges links : List ℕ) (n i a b : ℕ) → widths_active (segments_from held_width rows edges n i a) ≡ widths_active (segments_from held_width rows links n i b)
widths-any rows edges links n i a b =
    sym (handed-all (segments_from held_width rows edges n i a)) ∙ handed-any [] rows edges links n i a b ∙ handed-all (segments_from held_width rows links n i b)

abbrev from : List ℕ → ℕ → ℕ → List Segment
from rows n i = segments_from held_width rows [] (n - i) i 0

-- `sum` is what the first i of the n rows hand over
pub record Summed (before rows : List ℕ) (n i sum : ℕ) : Type 0 where
  pub is : handed before (bare rows n) ≡ sum + handed before (from rows n i)
  pub fits : widths_active (from rows n i) ≤ 65536

pub summed-start : (before rows : List ℕ) (n : ℕ) → widths_active (bare rows n) ≤ 65536 → Summed before rows n 0 0
summed-start before rows n h = record { is = simp sub-zero (omega arith); fits = simp sub-zero h }

module _ (before rows : List ℕ) (n i sum : ℕ) (p : Summed before rows n i sum) (below : i < n) where
  abbrev one : List Segment
  one = segment_at rows [] (i * held_width) 0 ∷ []

  -- the rows to come are this one and those behind it
  turn : (b : List ℕ) → handed b (from rows n i) ≡ handed b one + handed b (from rows n (i + 1))
  turn b =
      let e : n - i ≡ suc (n - (i + 1)) = omega arith in
      let w : ℕ = i * held_width in
      let s : Segment = segment_at rows [] w 0 in
      let l : List Segment = segments_from held_width rows [] (n - (i + 1)) (i + 1) (0 + parents_at rows w + children_at rows w) in
      let a : handed b (from rows n i) ≡ handed b (s ∷ l) = rw e refl in
      let c : handed b l ≡ handed b (from rows n (i + 1)) = handed-any b rows [] [] (n - (i + 1)) (i + 1) (0 + parents_at rows w + children_at rows w) 0 in
      omega (arith, a, c, handed-step b s l, handed-step b s [], no_rows b)

  turn-all : widths_active (from rows n i) ≡ widths_active one + widths_active (from rows n (i + 1))
  turn-all = omega (arith, turn [], handed-all (from rows n i), handed-all one, handed-all (from rows n (i + 1)))

  pub row_fits : widths_active (segment_at rows [] (i * held_width) 0 ∷ []) ≤ 65536
  row_fits = omega (arith, turn-all, p.fits)

  module _ (r : ℕ) (said : r ≡ handed before one) where
    pub sum_fits : widths_active (bare rows n) ≤ 65536 → Fits w64 (sum + r)
    sum_fits h = record { fits = omega (arith, p.is, turn before, handed-few before (bare rows n)) }

    pub summed-next : Summed before rows n (i + 1) (sum + r)
    summed-next = record { is = omega (arith, p.is, turn before); fits = omega (arith, turn-all, p.fits) }

pub summed-end : (before rows : List ℕ) (n i sum : ℕ) → Summed before rows n i sum → n ≤ i → sum ≡ handed before (bare rows n)
unfolding added_from widths_active
summed-end before rows n i sum p h =
    let z : n - i ≡ 0 = omega arith in
    let e : handed before (from rows n i) ≡ 0 = rw z refl in
    omega (arith, p.is)
