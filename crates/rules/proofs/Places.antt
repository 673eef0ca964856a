-- The tables by row number, for any row width: where the edges of a row begin, and that every stretch lies in the edge table.
--     start-next, start-room     one row more; the edges of row i end in the table
--     join-stretch               the parents and then the children are one stretch
--     part-words                 a part of k words, written out: for a k that is a numeral it computes
-- Assumes nothing.
use Prim.Native.Nat.{ℕ, zero, suc, ◌+◌, ◌-◌, ◌*◌, ◌≤◌, ◌<◌}
use native.Mathlib.Nat.{zero-add, sub-zero}
use native.Mathlib.Numerals.{add-one}
use mathlib.Core.Path.{◌≡◌, refl, ap}
use mathlib.Core.List.{List, [], ◌∷◌, ◌++◌}
use native.Mathlib.Omega.{arith}
use lib.ListN.{length, get_or, drop, length-take, length-drop}
use lib.Seq.{drop-cons, drop-drop, take-add}
use Rattle.words.specs.Part.{part}
use Rattle.rules.specs.Tables.{stretch, parents_at, children_at, edges_from, start_of}

pub start-next : (width : ℕ) (rows : List ℕ) (i : ℕ) → start_of width rows (i + 1) ≡ start_of width rows i + parents_at rows (i * width) + children_at rows (i * width)
start-next width rows i = rw add-one

-- the edges before row i and those from row i on are all of them
start-rest : (width : ℕ) (rows : List ℕ) (n i : ℕ) → i ≤ n → start_of width rows i + edges_from width rows (n - i) i ≡ edges_from width rows n 0
start-rest width rows n zero h = simp (zero-add, sub-zero)
start-rest width rows n (suc i) h =
    let e : n - i ≡ suc (n - suc i) = omega arith in
    let before : start_of width rows i + edges_from width rows (n - i) i ≡ edges_from width rows n 0 = start-rest width rows n i (omega arith) in
    let open_up : start_of width rows i + edges_from width rows (suc (n - suc i)) i ≡ edges_from width rows n 0 = rw e at before in
    let one : i + 1 ≡ suc i = add-one i in
    let turned : start_of width rows i + (parents_at rows (i * width) + children_at rows (i * width) + edges_from width rows (n - suc i) (suc i)) ≡ edges_from width rows n 0 = rw one at open_up in
    omega (arith, turned)

module _ (width : ℕ) (rows : List ℕ) (n i total : ℕ) (all : edges_from width rows n 0 ≡ total) (below : i < n) where
  pub start-room : start_of width rows i + parents_at rows (i * width) + children_at rows (i * width) ≤ total
  start-room =
      let e : n - i ≡ suc (n - (i + 1)) = omega arith in
      let r : start_of width rows i + edges_from width rows (suc (n - (i + 1))) i ≡ edges_from width rows n 0 = rw e at (start-rest width rows n i (omega arith)) in
      omega (arith, r)

-- a stretch that the table has is as long as it says
pub length-stretch : (edges : List ℕ) (from k : ℕ) → from + k ≤ length edges → length (stretch edges from (from + k)) ≡ k
length-stretch edges from k h = simp (length-take, length-drop) (omega arith)

-- p words from `at` on and then c words are p + c words from `at` on
pub join-stretch : (edges : List ℕ) (from p c : ℕ) → stretch edges from (from + p) ++ stretch edges (from + p) (from + p + c) ≡ stretch edges from (from + p + c)
join-stretch edges from p c =
    let a : from + p - from ≡ p = omega arith in
    let b : from + p + c - (from + p) ≡ c = omega arith in
    let d : from + p + c - from ≡ p + c = omega arith in
    rw (a, b, d, take-add p c (drop from edges), drop-drop p from edges) refl

-- the n words from w + k on, written out
abbrev pub words_from : List ℕ → ℕ → ℕ → ℕ → List ℕ
words_from l w k zero = []
words_from l w k (suc n) = get_or l (w + k) 0 ∷ words_from l w (suc k) n

words-from : (l : List ℕ) (w k n : ℕ) → w + k + n ≤ length l → part l (w + k) n ≡ words_from l w k n
words-from l w k zero h = refl
words-from l w k (suc n) h =
    let e : suc (w + k) ≡ w + suc k = omega arith in
    rw (drop-cons l (w + k) 0 (omega arith), e) (ap (λ (t : List ℕ). get_or l (w + k) 0 ∷ t) (words-from l w (suc k) n (omega arith)))

-- the same from w itself: the first word is `get_or l w 0`, as code reads it
pub part-words : (l : List ℕ) (w n : ℕ) → w + suc n ≤ length l → part l w (suc n) ≡ get_or l w 0 ∷ words_from l w 1 n
part-words l w n h =
    let e : suc w ≡ w + 1 = omega arith in
    rw (drop-cons l w 0 (omega arith), e) (ap (λ (t : List ℕ). get_or l w 0 ∷ t) (words-from l w 1 n (omega arith)))
