-- Flags in the words w₀ from `to`, marked by the index in the words from `place`, neighbour by neighbour.
--     here                   what a test that flags a row leaves
--     start, turn, done      the pass over the index: after p rows the flags are those of the first p
--     flags_put, flags_tell  all of it
-- By the laws of parts: the index stands before the flags, so a flag changes no word of it. Assumes nothing.
use native.Mathlib.Omega.{arith}
use mathlib.Core.Path.{◌≡◌, refl, sym, ap, ◌∙◌}
use mathlib.Core.List.{List}
use Prim.Native.Nat.{ℕ, zero, suc, ◌+◌, ◌-◌, ◌*◌, ◌≤◌, ◌<◌}
use lib.ListN.{length, get_or, take, set, replicate}
use lib.Seq.{take_all}
use borrow.Author.Tests.{eq-eqb}
use Rattle.lists.specs.Sort.{Row}
use Rattle.words.specs.Part.{part, put}
use Rattle.words.proofs.PartLaws.{put-part, put-put, part-put, part_length, part_at, get-before, set-part, Loan, loan}
use Rattle.sorts.specs.Rows.{rows}
use Rattle.sorts.specs.Heap.{at}
use Rattle.sorts.proofs.RowLaws.{rows_at, rows-length}
use Rattle.indexes.specs.Marks.{Tells, marked, paired}
use Rattle.indexes.proofs.TwinLaws.{paired-one, paired-more, length-paired, tells}

-- ---- one test

module _ (w : List ℕ) (to n x y k : ℕ) where
  pub here : to + n ≤ length w → x ≡ y → k < n → set w (to + k) 1 ≡ put w to n (marked x y k (part w to n))
  here f h g = rw (eq-eqb x y h) (set-part w to n k 1 g f)

-- ---- the pass

module _ (w₀ : List ℕ) (place to n : ℕ) (before : place + 3 * n ≤ to) (fits : to + n ≤ length w₀) where
  abbrev I : List ℕ
  I = part w₀ place (3 * n)

  abbrev R : List Row
  R = rows I

  abbrev Y : List ℕ
  Y = part w₀ to n

  index-len : length I ≡ 3 * n
  index-len = part_length w₀ place (3 * n) (omega arith)

  count-is : length R ≡ n
  count-is = rows-length I n index-len

  len : (p : ℕ) → length (paired (take p R) Y) ≡ n
  len p = length-paired (take p R) Y ∙ part_length w₀ to n (omega arith)

  pub start : w₀ ≡ put w₀ to n (paired (take 1 R) Y)
  start = rw (paired-one R Y) (sym (put-part w₀ to n))

  module _ (w : List ℕ) (p : ℕ) (is : w ≡ put w₀ to n (paired (take p R) Y)) where
    -- a word of the index, as it is then
    word : (i : ℕ) → i < 3 * n → get_or w (place + i) 0 ≡ get_or I i 0
    word i h =
        ap (λ (t : List ℕ). get_or t (place + i) 0) is ∙ get-before w₀ to n (paired (take p R) Y) (len p) (omega arith) (place + i) (omega arith)
        ∙ sym (part_at w₀ place (3 * n) i h)

    pub done : n ≤ p → w ≡ put w₀ to n (paired R Y)
    done h = let t : take p R ≡ R = take_all p R (omega (arith, count-is)) in rw t at is

  pub turn : (w : List ℕ) (p : ℕ) → 1 ≤ p → p < n → w ≡ put w₀ to n (paired (take p R) Y) → (w' : List ℕ)
      → w' ≡ put w to n (marked (get_or w (place + 3 * p - 3) 0) (get_or w (place + 3 * p) 0) (get_or w (place + 3 * p + 1) 0) (part w to n))
      → w' ≡ put w₀ to n (paired (take (p + 1) R) Y)
  turn w zero h k e w' f = absurd (omega arith)
  turn w (suc p) h k e w' f =
      let z : List ℕ = paired (take (suc p) R) Y in
      let l : length z ≡ n = len (suc p) in
      let a : place + 3 * suc p - 3 ≡ place + 3 * p = omega arith in
      let b : place + 3 * suc p + 1 ≡ place + (3 * suc p + 1) = omega arith in
      let row : (j : ℕ) → j < n → at R j ≡ (get_or I (3 * j) 0, get_or I (3 * j + 1) 0, get_or I (3 * j + 2) 0) = λ j g. rows_at I j (omega (arith, index-len)) in
      let x : get_or w (place + 3 * suc p - 3) 0 ≡ (at R p).0 = rw a (word w (suc p) e (3 * p) (omega arith) ∙ sym (ap (λ (t : Row). t.0) (row p (omega arith)))) in
      let y : get_or w (place + 3 * suc p) 0 ≡ (at R (suc p)).0 = word w (suc p) e (3 * suc p) (omega arith) ∙ sym (ap (λ (t : Row). t.0) (row (suc p) k)) in
      let v : get_or w (place + 3 * suc p + 1) 0 ≡ (at R (suc p)).1 =
      rw b (word w (suc p) e (3 * suc p + 1) (omega arith) ∙ sym (ap (λ (t : Row). t.1) (row (suc p) k))) in
      let i : part w to n ≡ z = ap (λ (t : List ℕ). part t to n) e ∙ part-put w₀ to n z l (omega arith) in
      let g : w' ≡ put w to n (marked (at R p).0 (at R (suc p)).0 (at R (suc p)).1 z) = f ∙ rw (x, y, v, i) refl in
      let s : suc p + 1 ≡ suc (suc p) = omega arith in
      g ∙ ap (λ (t : List ℕ). put t to n (marked (at R p).0 (at R (suc p)).0 (at R (suc p)).1 z)) e
      ∙ put-put w₀ to n z l (omega arith) (marked (at R p).0 (at R (suc p)).0 (at R (suc p)).1 z)
      ∙ rw (s, paired-more R Y p (omega (arith, count-is))) refl

-- ---- all of it: the flags, lent as `&mut w[to..to + n]`, come back cleared; and then the pass

module _ (w w₂ zs : List ℕ) (place to n : ℕ) (before : place + 3 * n ≤ to) (fits : to + n ≤ length w) (back : length zs ≡ length (part w to (to + n - to)))
    (cleared : zs ≡ replicate (length (part w to (to + n - to))) 0)
    (passed : w₂ ≡ put (put w to (to + n - to) zs) to n (paired (rows (part (put w to (to + n - to) zs) place (3 * n))) (part (put w to (to + n - to) zs) to n))) where
  lent : Loan w to n zs (put w to (to + n - to) zs)
  lent = loan w to (to + n) n zs refl fits back

  zeros : zs ≡ replicate n 0
  zeros = cleared ∙ ap (λ (k : ℕ). replicate k 0) (sym back ∙ lent.size)

  abbrev marks : List ℕ
  marks = paired (rows (part w place (3 * n))) (replicate n 0)

  put-marks : w₂ ≡ put w to n marks
  put-marks =
      let w₁ : List ℕ = put w to (to + n - to) zs in
      passed ∙ ap (λ (t : List ℕ). put w₁ to n (paired (rows t) (part w₁ to n))) (lent.before place (3 * n) before)
      ∙ ap (λ (t : List ℕ). put w₁ to n (paired (rows (part w place (3 * n))) t)) (lent.here ∙ zeros)
      ∙ ap (λ (t : List ℕ). put t to n marks) lent.is ∙ put-put w to n zs lent.size fits marks

  marks-are : part w₂ to n ≡ marks
  marks-are =
      let l : length marks ≡ n = length-paired (rows (part w place (3 * n))) (replicate n 0) ∙ ap length (sym zeros) ∙ lent.size in
      ap (λ (t : List ℕ). part t to n) put-marks ∙ part-put w to n marks l fits

  pub flags_put : w₂ ≡ put w to n (part w₂ to n)
  flags_put = put-marks ∙ ap (put w to n) (sym marks-are)

  pub flags_tell : Tells (rows (part w place (3 * n))) n (part w₂ to n)
  flags_tell = record { twins = λ l K keyed size is. rw (marks-are, is, ← size) (tells l K keyed) }
