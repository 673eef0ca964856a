-- Worked cases of the leaf rules for bad input, one list of cases under one statement, proved by running the definitions.
-- Assumes nothing.
use Prim.Native.Nat.{ℕ}
use mathlib.Core.Path.{◌≡◌, refl}
use Rattle.std.specs.Prelude.{Some}
use mathlib.Core.List.{List, [], ◌∷◌}
use Rattle.answers.specs.Answer.{number_of, values_of, Judged}
use Rattle.types.specs.declared.state.SegmentState.TheVariants.{Active, Sealed}
use Rattle.types.specs.declared.records.SegmentInfo.{SegmentInfo}
use Rattle.rules.specs.Tables.{optional}
use Rattle.rules.specs.Rows as Rows
use Rattle.types.specs.declared.records.Side.TheVariants.{Parents, Children}
use Rattle.rules.specs.Descriptor as Rule

infix 6 ◌gives◌
-- an answer by 01's number and values
abbrev Answer : Type 0
Answer = ℕ × List ℕ

abbrev judged : Judged → Answer
judged j = (number_of j, values_of j)

abbrev described : Rule.Described → Answer
described d = (Rule.described_number d, Rule.described_values d)

record Case : Type 0 where
  got : Answer
  wanted : Answer

abbrev ◌gives◌ : Answer → Answer → Case
got gives wanted = record { got = got; wanted = wanted }

abbrev Right : List Case → Type 0
Right [] = Unit {0}
Right (c ∷ cs) = (c.got ≡ c.wanted) × Right cs

-- an Active row of all hashes with that seal's flag
abbrev row : ℕ → ℕ → SegmentInfo
row id flag =
    record {
      id = record { 0 = id };
      start = 0;
      end = 65535;
      state = 1;
      created = 0;
      sealed = record { flag = flag; word = 0 };
      legacy = record { flag = 0; word = 0 };
      parents = 0;
      children = 0;
    }

-- a placement with that id
abbrev served : ℕ → Rule.Placed
served id = Some (record { id = record { 0 = id }; url = 1; tls = record { flag = 0; word = 0 } })

-- absent fields have the word 9, which is unread
abbrev cases : List Case
cases =
    -- segment 5 with the parents 7, 8, 7
    (judged (Rows.list_rule Parents 5 (7 ∷ 8 ∷ 7 ∷ [])) gives (20, 5 ∷ 7 ∷ []))
    -- with the parents 7, 5, 7: the self edge comes first
    ∷ (judged (Rows.list_rule Parents 5 (7 ∷ 5 ∷ 7 ∷ [])) gives (19, 5 ∷ []))
    -- start 65536, end 65535
    ∷ (judged (Rows.descriptor_rule 5 65536 65535 1 (optional 0 9)) gives (10, 5 ∷ 65536 ∷ []))
    -- an empty legacy text and a bad range
    ∷ (judged (Rows.descriptor_rule 5 65536 65535 1 (optional 1 0)) gives (9, 5 ∷ []))
    -- an unknown state
    ∷ (judged (Rows.descriptor_rule 5 0 65535 3 (optional 0 9)) gives (13, 5 ∷ 3 ∷ []))
    -- Active with a seal epoch
    ∷ (judged (Rows.lifecycle_rule 9 5 Active 1 (optional 1 3) 0) gives (15, 5 ∷ 3 ∷ []))
    -- Sealed without one
    ∷ (judged (Rows.lifecycle_rule 9 5 Sealed 1 (optional 0 9) 0) gives (17, 5 ∷ []))
    -- sealed after the layout
    ∷ (judged (Rows.lifecycle_rule 9 5 Sealed 1 (optional 1 10) 0) gives (18, 5 ∷ 1 ∷ 10 ∷ 9 ∷ []))
    -- the placement of another id
    ∷ (described (Rule.describe (row 5 0) (served 6)) gives (36, 5 ∷ 6 ∷ []))
    -- flag 2, and 1 comes before 36
    ∷ (described (Rule.describe (row 5 2) (served 6)) gives (1, []))
    ∷ []

pub right : Right cases
unfolding Rows.list_rule Rows.items_from Rows.descriptor_rule Rows.range_rule Rows.state_rule Rows.lifecycle_rule Rows.state_lifecycle Rows.active_rule Rows.sealed_rule Rule.bad_info Rule.bad_placed Rule.joined_rule Rule.describe_rule Rule.describe
right = (refl, (refl, (refl, (refl, (refl, (refl, (refl, (refl, (refl, (refl, tt))))))))))
