-- Document 01, "Tables": "state (1 Active, 2 Sealed)"; any other word is unknown (13).
-- Assumes nothing.
use Rattle.std.specs.Prelude.{ℕ, cond, List, [], ◌∷◌, Result, Ok, Err, eqb}
use Rattle.types.specs.declared.state.SegmentState.{SegmentState}
use Rattle.types.specs.declared.state.SegmentState.TheVariants.{Active, Sealed}
use Rattle.types.specs.declared.state.UnknownState.{UnknownState}

-- what `SegmentState::from_word` answers
abbrev pub StateRead : Type 0
StateRead = Result SegmentState UnknownState

abbrev pub state_of : ℕ → StateRead
state_of word = cond (eqb word 1) (Ok Active) (cond (eqb word 2) (Ok Sealed) (Err (record { 0 = word })))

-- 01's number and values for each case, without the id
abbrev pub state_number : StateRead → ℕ
state_number (Ok state) = 0
state_number (Err unknown) = 13

abbrev pub state_values : StateRead → List ℕ
state_values (Ok state) = []
state_values (Err unknown) = unknown.0 ∷ []
