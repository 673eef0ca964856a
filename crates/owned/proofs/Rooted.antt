-- Pruned roots: what a row found tells (`root_below`, `root_at`, `root_none`).
-- Assumes nothing.
use Prim.Native.Nat.{ℕ, ◌+◌, ◌*◌, ◌<◌, ◌≤◌}
use native.Mathlib.Omega.{arith}
use mathlib.Core.Path.{◌≡◌, refl, sym, ap, ◌∙◌}
use mathlib.Core.Bool.{Bool, true, false}
use mathlib.Core.Logic.{⊎_elim}
use mathlib.Core.List.{List}
use lib.ListN.{length, get_or, set}
use lib.Seq.{take-set-le, get_or-set_same, get_or-set_other}
use Rattle.lists.specs.Lists.{tick}
use Rattle.lists.proofs.Cases.{lt-or-le}
use Rattle.words.specs.Table.{ids, where_is, Found, At, Nothing}
use Rattle.words.proofs.TableLaws.{row-found}
use Rattle.rules.specs.Tables.{held_width}
use Rattle.tabled.proofs.Kept.{word_kept}
use Rattle.owned.specs.Marks.{Marked, root_row, root_found, root_of}

module _ (rows : List ℕ) (h x : ℕ) (f : Found) (is : f ≡ where_is (ids rows held_width h) x) where
  pub root_below : (r : ℕ) → f ≡ At r → r < h
  root_below r e = (row-found rows held_width h x r (sym is ∙ e)).0

  pub root_at : (r : ℕ) (t : Bool) → f ≡ At r → t ≡ root_row rows r → t ≡ root_of rows h x
  unfolding root_of
  root_at r t e k = k ∙ sym (ap (root_found rows) (sym is ∙ e))

  pub root_none : f ≡ Nothing → false ≡ root_of rows h x
  unfolding root_of
  root_none e = sym (ap (root_found rows) (sym is ∙ e))
