-- One record, judged by what the search for its id found. Assumes nothing.
use Prim.Native.Nat.{ℕ, ◌*◌, ◌<◌}
use mathlib.Core.Path.{◌≡◌, sym, ap, ◌∙◌}
use mathlib.Core.Option.{some}
use mathlib.Core.List.{List}
use Rattle.words.specs.Table.{ids, where_is, Found, At, Nothing}
use Rattle.words.proofs.TableLaws as Rows
use Rattle.answers.specs.Answer.{Judged, Refused}
use Rattle.types.specs.declared.records.Assigned.{Assigned}
use Rattle.rules.specs.Tables.{held_width, head_at, heads}
use Rattle.rules.specs.Assignment.{assigned_found, assigned_rule}
use Rattle.assignment.proofs.Heads.{head_found, head-found}
use Rattle.answers.specs.declared.Refusal.TheVariants.{UnknownAssigned}

module _ (rows : List ℕ) (n : ℕ) (a : Assigned) (f : Found) (said : f ≡ where_is (ids rows held_width n) a.id) where
  pub row_below : (row : ℕ) → f ≡ At row → row < n
  row_below row told = (Rows.row-found rows held_width n a.id row (sym said ∙ told)).0

  by_row : assigned_found a (head_found rows f) ≡ assigned_rule (heads held_width rows n 0) a
  unfolding assigned_rule
  by_row = ap (assigned_found a) (ap (head_found rows) said ∙ sym (head-found rows a.id n))

  pub record-at : (row : ℕ) (v : Judged) → f ≡ At row → v ≡ assigned_found a (some (head_at rows (row * held_width))) → v ≡ assigned_rule (heads held_width rows n 0) a
  record-at row v told e = e ∙ sym (ap (λ (g : Found). assigned_found a (head_found rows g)) told) ∙ by_row

  pub record-nowhere : (v : Judged) → f ≡ Nothing → v ≡ Refused (UnknownAssigned a.id) → v ≡ assigned_rule (heads held_width rows n 0) a
  unfolding assigned_found
  record-nowhere v told e = e ∙ sym (ap (λ (g : Found). assigned_found a (head_found rows g)) told) ∙ by_row
