-- What tables say that are not bad, for those who judge them further: each law from a test x that said so, by taking the test's `or` apart.
-- Assumes nothing.
use Prim.Native.Nat.{ℕ, zero, suc, ◌+◌, ◌*◌, ◌/◌, ◌%◌, ◌≤◌, ◌<◌}
use mathlib.Core.Path.{◌≡◌, refl, sym, ◌∙◌}
use mathlib.Core.Bool.{Bool, false, not}
use mathlib.Core.List.{List}
use native.Mathlib.Omega.{arith}
use native.Mathlib.Nat.{not-suc-le-zero, le_of_suc-le-suc, add-zero, zero-add, div-add-mod'}
use borrow.Author.Tests.{eqb-true, ltb-false, not-false}
use lib.ListN.{length, get_or}
use lib.Dec.{eqb, ltb}
use Rattle.answers.proofs.Judging.{or_left, or_right}
use Rattle.words.specs.Table.{ids, Ascends, ascending}
use Rattle.words.proofs.TableLaws.{asc-is}
use Rattle.rules.specs.Tables.{row_width, held_width, place_width, head_width, edges_from}
use Rattle.rules.specs.Shape.{bad_head, bad_place, bad_held_row, any_bad, wrong_counts, bad_table, bad_layout, bad_held_rows, bad_held}

-- ---- of tests

-- no row of n from row i on is bad, so row i + k is not
none-bad : (bad : List ℕ → ℕ → Bool) (width : ℕ) (rows : List ℕ) (n i k : ℕ) → any_bad bad width rows n i ≡ false → k < n → bad rows ((i + k) * width) ≡ false
none-bad bad width rows zero i k e h = absurd (not-suc-le-zero h)
none-bad bad width rows (suc n) i zero e h = rw (add-zero i) (or_left (bad rows (i * width)) (any_bad bad width rows n (i + 1)) e)
none-bad bad width rows (suc n) i (suc k) e h =
    let same : i + 1 + k ≡ i + suc k = omega arith in
    rw same at (none-bad bad width rows n (i + 1) k (or_right (bad rows (i * width)) (any_bad bad width rows n (i + 1)) e) (le_of_suc-le-suc h))

each-good : (bad : List ℕ → ℕ → Bool) (width : ℕ) (rows : List ℕ) (n k : ℕ) → any_bad bad width rows n 0 ≡ false → k < n → bad rows (k * width) ≡ false
each-good bad width rows n k e h = rw (zero-add k) at (none-bad bad width rows n 0 k e h)

counts-are : (width : ℕ) (rows : List ℕ) (n len : ℕ) → wrong_counts width rows n len ≡ false → edges_from width rows n 0 ≡ len
unfolding wrong_counts
counts-are width rows n len e = eqb-true _ _ (not-false _ e)

table-whole : (bad : List ℕ → ℕ → Bool) (width : ℕ) (rows : List ℕ) → bad_table bad width rows ≡ false → length rows ≡ length rows / width * width
unfolding bad_table
table-whole bad width rows e =
    let none : length rows % width ≡ 0 = eqb-true _ _ (not-false _ (or_left (not (eqb (length rows % width) 0)) (any_bad bad width rows (length rows / width) 0) e)) in
    omega (arith, div-add-mod' (length rows) width)

table-good : (bad : List ℕ → ℕ → Bool) (width : ℕ) (rows : List ℕ) → bad_table bad width rows ≡ false → (i : ℕ) → i < length rows / width → bad rows (i * width) ≡ false
unfolding bad_table
table-good bad width rows e i h =
    each-good bad width rows (length rows / width) i (or_right (not (eqb (length rows % width) 0)) (any_bad bad width rows (length rows / width) 0) e) h

-- ---- the words of a row that is not bad

pub record Head (rows : List ℕ) (w : ℕ) : Type 0 where
  pub start : get_or rows (w + 1) 0 ≤ 4294967295
  pub end : get_or rows (w + 2) 0 ≤ 4294967295
  pub state : get_or rows (w + 3) 0 ≤ 4294967295
  pub seal : get_or rows (w + 5) 0 ≤ 1
  pub legacy : get_or rows (w + 7) 0 ≤ 1

good-head : (rows : List ℕ) (w : ℕ) → bad_head rows w ≡ false → Head rows w
unfolding bad_head
good-head rows w e = search (ltb-false, or_left, or_right)

-- the head of a held row, and the flags of its site
pub record Held (rows : List ℕ) (w : ℕ) : Type 0 where
  pub head : Head rows w
  pub url : get_or rows (w + head_width) 0 ≤ 1
  pub tls : get_or rows (w + head_width + 2) 0 ≤ 1

good-held : (rows : List ℕ) (w : ℕ) → bad_held_row rows w ≡ false → Held rows w
unfolding bad_held_row
good-held rows w e = search (good-head, ltb-false, or_left, or_right)

good-place : (places : List ℕ) (w : ℕ) → bad_place places w ≡ false → get_or places (w + 2) 0 ≤ 1
unfolding bad_place
good-place places w e = ltb-false _ _ e

-- ---- a layout's tables

module _ (rows edges places : List ℕ) (x : Bool) (said : x ≡ bad_layout rows edges places) (told : x ≡ false) where
  layout-not-bad : (bad_table bad_head row_width rows ≡ false)
      × (wrong_counts row_width rows (length rows / row_width) (length edges) ≡ false)
      × (bad_table bad_place place_width places ≡ false)
  unfolding bad_layout
  layout-not-bad = let e : bad_layout rows edges places ≡ false = sym said ∙ told in search (or_left, or_right)

  pub layout-rows : length rows ≡ length rows / row_width * row_width
  layout-rows = table-whole bad_head row_width rows layout-not-bad.0

  pub layout-counts : edges_from row_width rows (length rows / row_width) 0 ≡ length edges
  layout-counts = counts-are row_width rows (length rows / row_width) (length edges) layout-not-bad.1

  pub layout-places : length places ≡ length places / place_width * place_width
  layout-places = table-whole bad_place place_width places layout-not-bad.2

  pub layout-head : (i : ℕ) → i < length rows / row_width → Head rows (i * row_width)
  layout-head i h = good-head rows (i * row_width) (table-good bad_head row_width rows layout-not-bad.0 i h)

  pub layout-place : (i : ℕ) → i < length places / place_width → get_or places (i * place_width + 2) 0 ≤ 1
  layout-place i h = good-place places (i * place_width) (table-good bad_place place_width places layout-not-bad.2 i h)

-- ---- n held rows

module _ (rows : List ℕ) (n : ℕ) (x : Bool) (said : x ≡ bad_held_rows rows n) (told : x ≡ false) where
  held-rows-not-bad : (ltb (length rows) (n * held_width) ≡ false)
      × (any_bad bad_held_row held_width rows n 0 ≡ false)
      × (not (ascending (ids rows held_width n)) ≡ false)
  unfolding bad_held_rows
  held-rows-not-bad = let e : bad_held_rows rows n ≡ false = sym said ∙ told in search (or_left, or_right)

  pub held-rows-fit : n * held_width ≤ length rows
  held-rows-fit = ltb-false _ _ held-rows-not-bad.0

  pub held-rows-good : (i : ℕ) → i < n → Held rows (i * held_width)
  held-rows-good i h = good-held rows (i * held_width) (each-good bad_held_row held_width rows n i held-rows-not-bad.1 h)

  pub held-rows-ascend : Ascends (ids rows held_width n)
  held-rows-ascend = asc-is (ids rows held_width n) (not-false _ held-rows-not-bad.2)

-- ---- n held rows with e edge words

module _ (rows edges : List ℕ) (n e : ℕ) (x : Bool) (said : x ≡ bad_held rows edges n e) (told : x ≡ false) where
  -- the laws of held rows follow from this, with `refl` for what was said
  pub held-rows : bad_held_rows rows n ≡ false
  unfolding bad_held
  held-rows = let z : bad_held rows edges n e ≡ false = sym said ∙ told in search or_left

  held-edges-not-bad : (ltb (length edges) e ≡ false) × (wrong_counts held_width rows n e ≡ false)
  unfolding bad_held
  held-edges-not-bad = let z : bad_held rows edges n e ≡ false = sym said ∙ told in search (or_left, or_right)

  pub held-fit : n * held_width ≤ length rows
  held-fit = held-rows-fit rows n (bad_held_rows rows n) refl held-rows

  pub held-good : (i : ℕ) → i < n → Held rows (i * held_width)
  held-good = held-rows-good rows n (bad_held_rows rows n) refl held-rows

  pub held-ascend : Ascends (ids rows held_width n)
  held-ascend = held-rows-ascend rows n (bad_held_rows rows n) refl held-rows

  pub held-edges-fit : e ≤ length edges
  held-edges-fit = ltb-false _ _ held-edges-not-bad.0

  pub held-counts : edges_from held_width rows n 0 ≡ e
  held-counts = counts-are held_width rows n e held-edges-not-bad.1
