-- What a search of the held rows tells, by whether refusal 1 names them.
-- Assumes nothing.
use Prim.Native.Nat.{ℕ}
use mathlib.Core.Path.{◌≡◌, refl, sym, ap, ◌∙◌}
use mathlib.Core.Bool.{Bool, true, false, not, cond, ◌&&◌}
use mathlib.Core.List.{List}
use Rattle.lists.specs.Lists.{has}
use Rattle.words.specs.Table.{ids, where_is, Found, At, Nothing}
use Rattle.words.proofs.TableLaws.{hit, has-hit}
use Rattle.types.specs.declared.records.Session.{Session}
use Rattle.rules.specs.Tables.{held_width}
use Rattle.rules.specs.Shape.{bad_held_rows}
use Rattle.rules.specs.Update.{held_count}
use Rattle.rules.specs.Session.{contains_segment}
use Rattle.std.specs.Prelude.{is_some}

some-hit : (f : Found) → is_some f ≡ hit f
some-hit (At row) = refl
some-hit Nothing = refl

module _ (s : Session) (rows : List ℕ) (id n : ℕ) (f : Found) (counted : n ≡ held_count s) (said : f ≡ cond (bad_held_rows rows n) Nothing (where_is (ids rows held_width n) id)) where
  contained-is : hit f ≡ contains_segment s rows id
  unfolding contains_segment
  contained-is =
      ap hit said
      ∙ by (bad_held_rows rows n) (where_is (ids rows held_width n) id) (sym (has-hit (ids rows held_width n) id))
      ∙ ap (λ (m : ℕ). not (bad_held_rows rows m) && has id (ids rows held_width m)) counted
    where
      by : (t : Bool) (g : Found) → hit g ≡ has id (ids rows held_width n) → hit (cond t Nothing g) ≡ (not t && has id (ids rows held_width n))
      by true g e = refl
      by false g e = e

  pub contained : (b : Bool) → b ≡ is_some f → b ≡ contains_segment s rows id
  contained b told = told ∙ some-hit f ∙ contained-is
