-- `words::find_row` meets its contract: below the first id there is nothing, and else it is `look`'s answer.
use native.Mathlib.Omega.{arith}
use native.Mathlib.Nat.{zero-mul, eq-or-lt_of_le}
use mathlib.Core.Path.{◌≡◌, sym}
use mathlib.Core.Logic.{◌⊎◌, ⊎_elim}
use mathlib.Core.List.{List}
use Prim.Native.Nat.{ℕ, ◌<◌, zero-le}
use lib.ListN.{get_or}
use Rattle.words.specs.Table.{ids, where_is, Ascends, Nothing}
use Rattle.words.proofs.TableLaws.{ids_at, is-nothing, word_in}
use Rattle.words.proofs.find_row.Goals as goal

first-at : (t : List ℕ) (w n : ℕ) → 0 < n → get_or (ids t w n) 0 0 ≡ get_or t 0 0
first-at t w n h = rw zero-mul at (ids_at t w n 0 h)

zero-or-more : (j : ℕ) → (0 ≡ j) ⊎ (0 < j)
zero-or-more j = eq-or-lt_of_le zero-le

below : (t : List ℕ) (w n x : ℕ) → Ascends (ids t w n) → 0 < n → x < get_or t 0 0 → Nothing ≡ where_is (ids t w n) x
below t w n x asc h q = sym (is-nothing (ids t w n) x (λ j p e. ⊎_elim (λ (z : 0 ≡ j). omega (arith, first-at t w n h, rw (← z) at e))
    (λ (l : 0 < j). omega (arith, first-at t w n h, asc 0 j l p)) (zero-or-more j)))

pub returns-then-id-first : goal.returns-then-id-first
returns-then-id-first c =
    below c.args.rows.now c.args.width c.args.count c.args.id c.requires.ascends (omega arith) c.if-id-first.true
