-- The loop over the rows: the held words of the first p keys, and of one key more (rows_next, row_kept, rows_end).
-- The parts that the turns put stand one behind the other (put-join). Assumes nothing.
use mathlib.Core.Path.{◌≡◌, refl, sym, ap, ◌∙◌}
use mathlib.Core.List.{List, [], ◌∷◌, ◌++◌}
use Prim.Native.Nat.{ℕ, ◌+◌, ◌*◌, ◌<◌, ◌≤◌}
use native.Mathlib.Omega.{arith}
use native.Mathlib.Numerals.{add-one}
use native.Mathlib.Nat.{zero-add}
use lib.ListN.{length, get_or, take, length-append}
use lib.Seq.{take_all, length-take-le}
use Rattle.lists.specs.Sort.{Row}
use Rattle.words.specs.Part.{put}
use Rattle.words.proofs.PartLaws.{put_as}
use Rattle.words.proofs.PutMore.{put-join}
use Rattle.sorts.specs.Heap.{at}
use Rattle.rules.specs.Model.{Placement, site_of}
use Rattle.rules.specs.Tables.{row_width, held_width, head_at, parents_at, children_at}
use Rattle.rules.proofs.Decode.{held-length}
use Rattle.indexes.specs.Index.{segment_index}
use Rattle.indexes.proofs.Keys.{length-index}
use Rattle.image.specs.Written.{row_words, key_rows, Ready}
use Rattle.image.proofs.InTurn.{turn_more}
use Rattle.image.proofs.KeyWords.{key_row, ready-kept}

module _ (table : List ℕ) (ps : List Placement) where
  row-length : (w : ℕ) → length (row_words table ps w) ≡ held_width
  row-length w = held-length (head_at table w) (parents_at table w) (children_at table w) (site_of (get_or table w 0) ps)

  pub rows-length : (l : List Row) → length (key_rows table ps l) ≡ length l * held_width
  rows-length [] = refl
  rows-length (x ∷ l) =
      let a = length-append (row_words table ps (x.1 * row_width)) (key_rows table ps l) in
      omega (arith, a, row-length (x.1 * row_width), rows-length l)

-- a turn leaves the indexes
pub row_kept : (w w' table : List ℕ) (ps : List Placement) (n : ℕ) (places : List ℕ) (m a b p r : ℕ) → n * held_width ≤ a → p < n → Ready w table n places m a b
    → w' ≡ put w (p * held_width) held_width (row_words table ps r) → Ready w' table n places m a b
row_kept w w' table ps n places m a b p r room below ready e =
    ready-kept w w' (p * held_width) held_width (row_words table ps r) e (row-length table ps r) a (omega arith) table n places m b ready

-- after p turns
module _ (w₀ w table : List ℕ) (ps : List Placement) (n p : ℕ) (rest : w ≡ put w₀ 0 (p * held_width) (key_rows table ps (take p (segment_index table n)))) where
  pub rows_next : (places : List ℕ) (m a b : ℕ) → n * held_width ≤ a → length w ≡ length w₀ → Ready w table n places m a b → p < n → (w' : List ℕ)
      → w' ≡ put w (p * held_width) held_width (row_words table ps (get_or w (a + p * 3 + 1) 0 * row_width))
      → w' ≡ put w₀ 0 ((p + 1) * held_width) (key_rows table ps (take (p + 1) (segment_index table n)))
  rows_next places m a b room same ready below w' e =
      let S : List Row = segment_index table n in
      let len : length S ≡ n = length-index table n in
      let size : length (key_rows table ps (take p S)) ≡ p * held_width = rows-length table ps (take p S) ∙ ap (λ (k : ℕ). k * held_width) (length-take-le p S (omega arith)) in
      let R : List ℕ = row_words table ps ((at S p).1 * row_width) in
      let f : row_words table ps (get_or w (a + p * 3 + 1) 0 * row_width) ≡ R = ap (λ (r : ℕ). row_words table ps (r * row_width)) (key_row w table n a ready.first p below) in
      let more : key_rows table ps (take (p + 1) S) ≡ key_rows table ps (take p S) ++ R = rw (add-one p) (turn_more (λ (x : Row). row_words table ps (x.1 * row_width)) S p (omega arith)) in
      let z : 0 + p * held_width ≡ p * held_width = zero-add (p * held_width) in
      e ∙ ap (put w (p * held_width) held_width) f ∙ ap (λ (t : List ℕ). put t (p * held_width) held_width R) rest
      ∙ ap (λ (k : ℕ). put (put w₀ 0 (p * held_width) (key_rows table ps (take p S))) k held_width R) (sym z)
      ∙ put-join w₀ 0 (p * held_width) (key_rows table ps (take p S)) size (omega (arith, ready.apart, ready.room)) held_width R
      ∙ put_as w₀ 0 (p * held_width + held_width) ((p + 1) * held_width) (key_rows table ps (take p S) ++ R) (key_rows table ps (take (p + 1) S))
      (omega arith) (sym more)

  pub rows_end : p ≤ n → n ≤ p → w ≡ put w₀ 0 (n * held_width) (key_rows table ps (segment_index table n))
  rows_end a b =
      let e : p ≡ n = omega arith in
      rest ∙ put_as w₀ 0 (p * held_width) (n * held_width) (key_rows table ps (take p (segment_index table n))) (key_rows table ps (segment_index table n)) (ap (λ (k : ℕ). k * held_width) e)
      (ap (key_rows table ps) (take_all p (segment_index table n) (omega (arith, length-index table n))))
