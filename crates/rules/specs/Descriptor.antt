-- Document 01: the descriptor call, `SegmentDescriptor::try_from_pb`: a segment row and the placement that is joined to it, both by value.
-- 1 for their words, "36 PlacementMismatch (id, placement id); first check of the descriptor call", then 9 to 13. It answers the held row.
-- Assumes nothing.
use Rattle.std.specs.Prelude.{ℕ, Bool, false, not, cond, ◌||◌, Option, Some, None, Result, Ok, Err, List, [], eqb}
use Rattle.answers.specs.Answer.{when, ◌then◌, refusal_number, refusal_values, Judged, Accepted, Refused}
use Rattle.answers.specs.declared.Refusal.{Refusal}
use Rattle.types.specs.declared.records.Optional.{Optional}
use Rattle.types.specs.declared.records.SegmentInfo.{SegmentInfo}
use Rattle.types.specs.declared.records.SegmentDescriptor.{SegmentDescriptor}
use Rattle.types.specs.declared.records.Broker.{Broker}
use Rattle.rules.specs.Tables.{optional}
use Rattle.rules.specs.Shape.{bad_flag, bad_hash}
use Rattle.rules.specs.Rows.{descriptor_rule}
use Rattle.answers.specs.declared.Refusal.TheVariants.{PlacementMismatch, BadTable}

-- the placement that is joined to a row, if there is one
abbrev pub Placed : Type 0
Placed = Option Broker

-- the held row or the refusal
abbrev pub Described : Type 0
Described = Result SegmentDescriptor Refusal

-- the row's words: hashes and state of at most 32 bits, flags 0 or 1
unfoldable pub bad_info : SegmentInfo → Bool
bad_info i =
    bad_hash i.start
    || (bad_hash i.end
    || (bad_hash i.state
    || (bad_flag i.sealed.flag
    || bad_flag i.legacy.flag)))

-- the placement's TLS flag
unfoldable pub bad_placed : Placed → Bool
bad_placed None = false
bad_placed (Some b) = bad_flag b.tls.flag

-- 36
unfoldable pub joined_rule : ℕ → Placed → Judged
joined_rule id None = Accepted
joined_rule id (Some b) = when (not (eqb b.id.0 id)) (Refused (PlacementMismatch id b.id.0))

unfoldable pub describe_rule : SegmentInfo → Placed → Judged
describe_rule i placed =
    when (bad_info i || bad_placed placed) (Refused BadTable) then
    joined_rule i.id.0 placed then
    descriptor_rule i.id.0 i.start i.end i.state (optional i.legacy.flag i.legacy.word)

-- "a word, which is unread when absent and held as 0"
abbrev pub held_option : Optional → Optional
held_option o = record { flag = o.flag; word = cond (eqb o.flag 0) 0 o.word }

abbrev pub held_info : SegmentInfo → SegmentInfo
held_info i =
    record {
      id = i.id;
      start = i.start;
      end = i.end;
      state = i.state;
      created = i.created;
      sealed = held_option i.sealed;
      legacy = held_option i.legacy;
      parents = i.parents;
      children = i.children;
    }

abbrev pub url_of : Placed → Optional
url_of None = record { flag = 0; word = 0 }
url_of (Some b) = record { flag = 1; word = b.url }

abbrev pub tls_of : Placed → Optional
tls_of None = record { flag = 0; word = 0 }
tls_of (Some b) = held_option b.tls

abbrev pub descriptor_of : SegmentInfo → Placed → SegmentDescriptor
descriptor_of i placed = record { info = held_info i; url = url_of placed; tls = tls_of placed }

abbrev pub described_as : Judged → SegmentDescriptor → Described
described_as Accepted d = Ok d
described_as (Refused r) d = Err r

-- what the call answers
unfoldable pub describe : SegmentInfo → Placed → Described
describe i placed = described_as (describe_rule i placed) (descriptor_of i placed)

-- 01's number and values for each case
abbrev pub described_number : Described → ℕ
described_number (Err r) = refusal_number r
described_number (Ok d) = 0

abbrev pub described_values : Described → List ℕ
described_values (Err r) = refusal_values r
described_values (Ok d) = []
