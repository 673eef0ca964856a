-- Hints in the work area: noting them leaves the walk's own words.
-- Assumes nothing.
use native.Mathlib.Omega.{arith}
use Prim.Native.Nat.{ℕ, ◌+◌, ◌-◌, ◌*◌, ◌<◌, ◌≤◌}
use mathlib.Core.Path.{◌≡◌, sym, ap, subst, ◌∙◌}
use mathlib.Core.List.{List}
use lib.ListN.{length, get_or, take}
use Rattle.words.specs.Table.{ids, Ascends}
use Rattle.words.proofs.TableLaws.{length_ids, ids_at}
use Rattle.rules.specs.Tables.{held_width}
use Rattle.tabled.proofs.Kept.{part-kept}
use Rattle.walk.specs.Met.{met, marks_in, list_in, bare_in, met_in, meet_all, MetOnce, StartsIn}
use Rattle.walk.proofs.Sorting.{part-ids}
use Rattle.walk.proofs.Steps.{starts-kept}

-- the first id is below the last
pub firsts-order : (rows : List ℕ) (n : ℕ) → Ascends (ids rows held_width n) → 2 ≤ n → get_or rows 0 0 < get_or rows ((n - 1) * held_width) 0
firsts-order rows n up h =
    omega (arith, up 0 (n - 1) (omega arith) (rw length_ids (omega arith)), ids_at rows held_width n 0 (omega arith), ids_at rows held_width n (n - 1) (omega arith))

-- the words before c are what they were, and with them what was met
module _ (w w' : List ℕ) (c n len k : ℕ) (same : take c w' ≡ take c w) (fit : 3 * n + 3 * k ≤ c) (ln : len ≤ n) where
  marks-kept : marks_in n w' ≡ marks_in n w
  marks-kept = part-kept w' w c same n n (omega arith)

  list-kept : list_in n len w' ≡ list_in n len w
  list-kept = part-kept w' w c same (2 * n) len (omega arith)

  bare-kept : bare_in n k w' ≡ bare_in n k w
  bare-kept = part-ids w' (3 * n) k ∙ ap (λ (l : List ℕ). ids l 3 k) (part-kept w' w c same (3 * n) (3 * k) fit) ∙ sym (part-ids w (3 * n) k)

  pub met-kept : met_in n len k w' ≡ met_in n len k w
  met-kept j = met (marks-kept j) (list-kept j) (bare-kept j)

-- the same after hints were noted behind the walk's words
module _ (rows edges : List ℕ) (n : ℕ) (w w' : List ℕ) (len k : ℕ) (same : take (6 * (n + length edges)) w' ≡ take (6 * (n + length edges)) w) (fit : k ≤ length edges) (ln : len ≤ n) where
  there : met_in n len k w' ≡ met_in n len k w
  there = met-kept w w' (6 * (n + length edges)) n len k same (omega arith) ln

  front : take n w' ≡ take n w
  front = part-kept w' w (6 * (n + length edges)) same 0 n (omega arith)

  pub starts-there : StartsIn rows n w → StartsIn rows n w'
  starts-there = starts-kept rows n w w' front

  pub held-there : MetOnce n (met_in n len k w) → MetOnce n (met_in n len k w')
  held-there = subst (MetOnce n) (sym there)

  pub visited : (table ps : List ℕ) (l b : ℕ) (w'' : List ℕ) → (met_in n l b w'' ≡ meet_all table ps (met_in n len k w')) × (l ≤ n) × (take n w'' ≡ take n w')
      → (met_in n l b w'' ≡ meet_all table ps (met_in n len k w)) × (l ≤ n) × (take n w'' ≡ take n w)
  visited table ps l b w'' e = (e.0 ∙ ap (meet_all table ps) there, e.1, e.2 ∙ front)
