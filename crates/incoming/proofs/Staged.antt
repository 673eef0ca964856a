-- One stage in the work area: the index of n rows made in the part from a up to b, which was lent and came back as ys, and then the flags of
-- its twins in the n words from f on, behind it. The index stays, so do the words between, and the flags are those that the judges ask for.
-- Assumes nothing.
use Prim.Native.Nat.{ℕ, ◌+◌, ◌-◌, ◌*◌, ◌≤◌}
use native.Mathlib.Omega.{arith}
use mathlib.Core.Path.{◌≡◌, refl, ap, ◌∙◌}
use mathlib.Core.List.{List}
use lib.ListN.{length}
use Rattle.lists.specs.Sort.{Row}
use Rattle.words.specs.Part.{part, put}
use Rattle.words.specs.Table.{ids}
use Rattle.words.specs.Twins.{Twins}
use Rattle.words.proofs.PartLaws.{Loan, loan, part-as, part_length, part-before}
use Rattle.sorts.specs.Rows.{rows}
use Rattle.rules.specs.Tables.{row_width, place_width}
use Rattle.indexes.specs.Index.{segment_index, placement_index}
use Rattle.indexes.specs.Marks.{Tells}
use Rattle.indexes.proofs.Flags.{rows-twins, places-twins}

module _ (w : List ℕ) (a b n f : ℕ) (ys w₂ : List ℕ) (ends : a + 3 * n ≡ b) (apart : b ≤ f) (fits : f + n ≤ length w) (kept : length ys ≡ length (part w a (b - a)))
    (same : length w₂ ≡ length (put w a (b - a) ys)) (flagged : w₂ ≡ put (put w a (b - a) ys) f n (part w₂ f n)) where
  abbrev w₁ : List ℕ
  w₁ = put w a (b - a) ys

  lent : Loan w a (3 * n) ys w₁
  lent = loan w a b (3 * n) ys ends (omega arith) kept

  front : (from k : ℕ) → from + k ≤ f → part w₂ from k ≡ part w₁ from k
  front from k h =
      let l : length w₁ ≡ length w = lent.len in
      ap (λ (t : List ℕ). part t from k) flagged ∙ part-before w₁ f n (part w₂ f n) (part_length w₂ f n (omega (arith, same))) (omega arith) from k h

  pub index_stays : (index : List Row) → rows ys ≡ index → rows (part w₂ a (3 * n)) ≡ index
  index_stays index is = ap rows (front a (3 * n) (omega arith) ∙ lent.here) ∙ is

  pub between_stays : part w₂ b (f - b) ≡ part w b (f - b)
  between_stays = front b (f - b) (omega arith) ∙ lent.after b (f - b) (omega arith)

  told : (index : List Row) → rows ys ≡ index → Tells (rows (part w₁ a (3 * n))) n (part w₂ f n) → Tells index n (part w₂ f (f + n - f))
  told index is t = rw (part-as w₂ f (f + n) n refl, ← is, ← lent.here) t

  module _ (table : List ℕ) (t : Tells (rows (part (put w a (b - a) ys) a (3 * n))) n (part w₂ f n)) where
    pub places-flagged : rows ys ≡ placement_index table n → Twins (ids table place_width n) (part w₂ f (f + n - f))
    places-flagged is = places-twins table n (part w₂ f (f + n - f)) (told (placement_index table n) is t)

    pub rows-flagged : rows ys ≡ segment_index table n → Twins (ids table row_width n) (part w₂ f (f + n - f))
    rows-flagged is = rows-twins table n (part w₂ f (f + n - f)) (told (segment_index table n) is t)

-- what `judge_rows_in` rests on
pub ruleset rows_staged = (between_stays, rows-flagged)
