-- An id is among the ids of held segments where its row is found.
-- Assumes nothing.
use Prim.Native.Nat.{ℕ}
use mathlib.Core.Path.{◌≡◌, ap, ◌∙◌}
use mathlib.Core.List.{List}
use Rattle.lists.specs.Lists.{has}
use Rattle.words.specs.Table.{ids, where_is}
use Rattle.words.proofs.TableLaws.{hit, has-hit}
use Rattle.rules.specs.Model.{ids_of}
use Rattle.rules.specs.Tables.{held_width, held_segments}
use Rattle.tabled.proofs.ByRow.{ids-segments}

pub has-row : (rows edges : List ℕ) (h x : ℕ) → has x (ids_of (held_segments rows edges h)) ≡ hit (where_is (ids rows held_width h) x)
has-row rows edges h x = ap (has x) (ids-segments rows edges h) ∙ has-hit (ids rows held_width h) x
