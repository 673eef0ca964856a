-- An id is among the ids of held tables where its row is found.
-- Assumes nothing.
use Prim.Native.Nat.{ℕ}
use mathlib.Core.Path.{◌≡◌, refl, sym, ap, ◌∙◌}
use mathlib.Core.Bool.{Bool, true, false, not}
use mathlib.Core.List.{List}
use Rattle.lists.specs.Lists.{has}
use Rattle.words.specs.Table.{ids, where_is, Found, At, Nothing}
use Rattle.words.proofs.TableLaws.{hit}
use Rattle.answers.specs.Answer.{Judged, Accepted, Refused}
use Rattle.rules.specs.Model.{ids_of}
use Rattle.rules.specs.Tables.{held_width, held_segments}
use Rattle.rules.specs.Shape.{bad_held}
use Rattle.rules.specs.Ordering.{known_rule}
use Rattle.tabled.proofs.HasRow.{has-row}
use Rattle.answers.specs.declared.Refusal.TheVariants.{UnknownSegment}

module _ (rows edges : List ℕ) (h x : ℕ) (f : Found) (is : f ≡ where_is (ids rows held_width h) x) where
  row-known : (r : ℕ) → f ≡ At r → not (has x (ids_of (held_segments rows edges h))) ≡ false
  row-known r e = ap not (has-row rows edges h x ∙ ap hit (sym is ∙ e))

  row-unknown : f ≡ Nothing → not (has x (ids_of (held_segments rows edges h))) ≡ true
  row-unknown e = ap not (has-row rows edges h x ∙ ap hit (sym is ∙ e))

  -- 1, 50
  pub rule-known : (g : ℕ) (b : Bool) (r : ℕ) → b ≡ bad_held rows edges h g → b ≡ false → f ≡ At r → Accepted ≡ known_rule rows edges h g x
  unfolding known_rule
  rule-known g b r said told e = rw (← said, told, row-known r e) refl

  pub rule-unknown : (g : ℕ) (b : Bool) (v : Judged) → b ≡ bad_held rows edges h g → b ≡ false → f ≡ Nothing → v ≡ Refused (UnknownSegment x) → v ≡ known_rule rows edges h g x
  unfolding known_rule
  rule-unknown g b v said told e is' = rw (← said, told, row-unknown e) is'
