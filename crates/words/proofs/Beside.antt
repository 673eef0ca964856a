-- What a row of a table whose ids ascend says of an id, and of the rows on either side.
-- Assumes nothing.
use native.Mathlib.Omega.{arith}
use native.Mathlib.Nat.{eq-or-lt_of_le, le_of_suc-le-suc}
use native.Mathlib.Numerals.{add-one}
use mathlib.Core.Path.{◌≡◌, sym, ◌∙◌}
use mathlib.Core.Logic.{⊎_elim}
use mathlib.Core.List.{List}
use Prim.Native.Nat.{ℕ, ◌+◌, ◌*◌, ◌<◌, ◌≤◌}
use lib.ListN.{length, get_or}
use Rattle.lists.proofs.Cases.{lt-or-le}
use Rattle.words.specs.Table.{ids, where_is, Ascends, At, Nothing}
use Rattle.words.proofs.TableLaws.{length_ids, ids_at, is_at, is-nothing}

module _ (t : List ℕ) (w n x : ℕ) (asc : Ascends (ids t w n)) where
  in-l : (m : ℕ) → m < n → m < length (ids t w n)
  in-l m h = rw length_ids h

  pub stands : (m : ℕ) → m < n → get_or t (m * w) 0 ≡ x → At m ≡ where_is (ids t w n) x
  stands m h e = sym (is_at (ids t w n) x m (in-l m h) (ids_at t w n m h ∙ e) (λ j q e'. omega (arith, asc j m q (in-l m h), ids_at t w n m h)))

  pub past : (m : ℕ) → m < n → get_or t (m * w) 0 < x → (k : ℕ) → k < m + 1 → get_or (ids t w n) k 0 < x
  past m h l k q = ⊎_elim (λ (e : k ≡ m). rw (e, ids_at t w n m h) l)
      (λ (b : k < m). omega (arith, asc k m b (in-l m h), ids_at t w n m h)) (eq-or-lt_of_le (le_of_suc-le-suc (rw add-one at q)))

  pub short-of : (m : ℕ) → m < n → x < get_or t (m * w) 0 → (k : ℕ) → m ≤ k → k < n → x < get_or (ids t w n) k 0
  short-of m h l k q q' = ⊎_elim (λ (e : m ≡ k). rw (← e, ids_at t w n m h) l)
      (λ (b : m < k). omega (arith, asc m k b (in-l k q'), ids_at t w n m h)) (eq-or-lt_of_le q)

pub between : (t : List ℕ) (w n x m : ℕ) → ((k : ℕ) → k < m → get_or (ids t w n) k 0 < x) → ((k : ℕ) → m ≤ k → k < n → x < get_or (ids t w n) k 0) → Nothing ≡ where_is (ids t w n) x
between t w n x m below above = sym (is-nothing (ids t w n) x (λ j q e. ⊎_elim (λ (l : j < m). omega (arith, below j l))
    (λ (l : m ≤ j). omega (arith, above j l (rw length_ids at q))) (lt-or-le j m)))
