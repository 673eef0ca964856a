-- One pass over held rows, each beside the one before it, tells what `bad_held_rows` asks of them by two: whether one is bad, and whether their
-- ids ascend. One pass that counts as well tells what `bad_held` asks. Assumes nothing.
use Prim.Native.Nat.{ℕ, zero, suc, ◌+◌, ◌-◌, ◌*◌, ◌≤◌}
use mathlib.Core.Path.{◌≡◌, refl, sym, ap, ◌∙◌}
use mathlib.Core.Bool.{Bool, true, false, not, ◌&&◌, ◌||◌, or-true, or-false, or_assoc}
use mathlib.Core.List.{List, ◌∷◌}
use native.Mathlib.Omega.{arith}
use native.Mathlib.Nat.{add-zero}
use borrow.Author.Tests.{ltb-true, ltb-false, le-ltb, le-leb, lt-leb}
use lib.ListN.{length, get_or, drop}
use lib.Seq.{get_or-drop, drop-drop}
use lib.Dec.{ltb, leb}
use Rattle.words.specs.Table.{ids, ascending}
use Rattle.rules.specs.Tables.{held_width}
use Rattle.rules.specs.Shape.{bad_held_row, any_bad, wrong_counts, bad_held_rows, bad_held}
use Rattle.shape.specs.Next.{bad_next}
use Rattle.shape.proofs.Whole.{compared, rows_fit, rows_short}

-- ---- one pass for rows and ids

not-above : (x y : ℕ) → leb y x ≡ not (ltb x y)
not-above x y = by (ltb x y) refl
  where
    by : (t : Bool) → ltb x y ≡ t → leb y x ≡ not (ltb x y)
    by true e = lt-leb y x (ltb-true x y e) ∙ sym (ap not e)
    by false e = le-leb y x (ltb-false x y e) ∙ sym (ap not e)

-- a row is bad (b) or not above (u); so it is with those to come (r, a): then one of all is bad, or not all are above
sides : (v w b u r a : Bool) → v ≡ b || not u → w ≡ r || not a → v || w ≡ (b || r) || not (u && a)
sides v w true u r a p q = rw p
sides v w false true r a p q = rw (p, q)
sides v w false false r a p q = rw (p, or-true)

module _ (rows : List ℕ) where
  first-row : bad_next rows (0 * held_width) ≡ bad_held_row rows (0 * held_width)
  unfolding bad_next
  first-row = or-false (bad_held_row rows (0 * held_width))

  next_row : (i : ℕ) → bad_next rows ((i + 1) * held_width) ≡ bad_held_row rows ((i + 1) * held_width) || not (ltb (get_or rows (i * held_width) 0) (get_or rows ((i + 1) * held_width) 0))
  unfolding bad_next
  next_row i =
      let before : (i + 1) * held_width - held_width ≡ i * held_width = omega arith in
      rw (le-leb held_width ((i + 1) * held_width) (omega arith), before, not-above (get_or rows (i * held_width) 0) (get_or rows ((i + 1) * held_width) 0))

  -- n rows behind row i
  behind : (n i : ℕ) → any_bad bad_next held_width rows n (i + 1)
      ≡ any_bad bad_held_row held_width rows n (i + 1) || not (ascending (get_or rows (i * held_width) 0 ∷ ids (drop ((i + 1) * held_width) rows) held_width n))
  behind zero i = refl
  behind (suc n) i =
      let id : get_or (drop ((i + 1) * held_width) rows) 0 0 ≡ get_or rows ((i + 1) * held_width) 0 = rw (get_or-drop, add-zero) in
      let end : (i + 1) * held_width + held_width ≡ (i + 1 + 1) * held_width = omega arith in
      let row = next_row i in
      let rest = behind n (i + 1) in
      let tails : ids (drop held_width (drop ((i + 1) * held_width) rows)) held_width n ≡ ids (drop ((i + 1 + 1) * held_width) rows) held_width n = rw (drop-drop, end) refl in
      sides _ _ _ _ _ _ row rest
      ∙ ap (λ (x : ℕ). any_bad bad_held_row held_width rows (suc n) (i + 1) || not (ascending (get_or rows (i * held_width) 0 ∷ x ∷ ids (drop ((i + 1 + 1) * held_width) rows) held_width n))) (sym id)
      ∙ ap (λ (t : List ℕ). any_bad bad_held_row held_width rows (suc n) (i + 1) || not (ascending (get_or rows (i * held_width) 0 ∷ get_or (drop ((i + 1) * held_width) rows) 0 0 ∷ t))) (sym tails)

  next-is : (n : ℕ) → any_bad bad_next held_width rows n 0 ≡ any_bad bad_held_row held_width rows n 0 || not (ascending (ids rows held_width n))
  next-is zero = refl
  next-is (suc n) = rw (first-row, behind n 0) (simp or_assoc)

-- ---- a pass that asks for one thing or another

pub one_holds : (a b : Bool) → true ≡ a → true ≡ a || b
one_holds a b e = rw (← e)

pub other_holds : (a b : Bool) → true ≡ b → true ≡ a || b
other_holds a b e = rw (← e, or-true)

-- ---- what a pass said is what is asked

pub rows_said : (rows : List ℕ) (n : ℕ) (x : Bool) → x ≡ any_bad bad_next held_width rows n 0 → x ≡ any_bad bad_held_row held_width rows n 0 || not (ascending (ids rows held_width n))
rows_said rows n x said = said ∙ next-is rows n

pub held_said : (rows edges : List ℕ) (n e : ℕ) (x : Bool) → n * held_width ≤ length rows → e ≤ length edges
    → x ≡ any_bad bad_next held_width rows n 0 || wrong_counts held_width rows n e
    → x ≡ bad_held rows edges n e
unfolding bad_held bad_held_rows
held_said rows edges n e x h k said = rw (le-ltb (length rows) (n * held_width) h, le-ltb (length edges) e k, ← next-is rows n) said

pub ruleset held_rows = (compared, rows_said)

pub ruleset held = (held_said, rows_fit, rows_short, compared, one_holds, other_holds)
