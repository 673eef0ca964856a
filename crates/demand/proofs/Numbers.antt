-- 10 to 13 are told by the numbers of `KeyRange::new` and `SegmentState::from_word`, with the id before their values. By cases.
-- Assumes nothing.
use Prim.Native.Nat.{ℕ}
use mathlib.Core.Path.{◌≡◌, refl}
use mathlib.Core.Bool.{cond}
use mathlib.Core.List.{[], ◌∷◌}
use lib.Dec.{eqb}
use Rattle.std.specs.Prelude.{Ok, Err}
use Rattle.answers.specs.Answer.{number_of, values_of}
use Rattle.types.specs.declared.range.RangeError.TheVariants.{StartOutOfBounds, EndOutOfBounds, Reversed}
use Rattle.types.specs.Range.{Made, range_number, range_values}
use Rattle.types.specs.State.{StateRead, state_number, state_values}
use Rattle.rules.specs.Rows.{range_rule, state_rule}

pub range-number : (id : ℕ) (made : Made) → number_of (range_rule id made) ≡ range_number made
unfolding range_rule
range-number id (Ok range) = refl
range-number id (Err (StartOutOfBounds s)) = refl
range-number id (Err (EndOutOfBounds e)) = refl
range-number id (Err (Reversed s e)) = refl

pub range-values : (id : ℕ) (made : Made) → values_of (range_rule id made) ≡ cond (eqb (range_number made) 0) [] (id ∷ range_values made)
unfolding range_rule
range-values id (Ok range) = refl
range-values id (Err (StartOutOfBounds s)) = refl
range-values id (Err (EndOutOfBounds e)) = refl
range-values id (Err (Reversed s e)) = refl

pub state-number : (id : ℕ) (read : StateRead) → number_of (state_rule id read) ≡ state_number read
unfolding state_rule
state-number id (Ok state) = refl
state-number id (Err unknown) = refl

pub state-values : (id : ℕ) (read : StateRead) → values_of (state_rule id read) ≡ cond (eqb (state_number read) 0) [] (id ∷ state_values read)
unfolding state_rule
state-values id (Ok state) = refl
state-values id (Err unknown) = refl
