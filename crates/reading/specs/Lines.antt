-- Document 01, "The listing program": "S session; U opens an update, D epoch and size; s the segment's words with `-` for absent or none
-- and comma lists; p a placement's id, URL, TLS or `-`; e code, message; n, c, t the three names; `.` ends. O: segment, S or B, history,
-- completed." A line is one letter and its fields. What is not written so is unreadable, which is None; so is a list beyond its room.
-- Assumes nothing.
use Rattle.std.specs.Prelude.{◌≡◌, ℕ, ◌-◌, cond, List, [], ◌++◌, eqb, length, Option, Some, None, option_map}
use Prim.Native.Char.{code}
use Rattle.types.specs.declared.records.Optional.{Optional}
use Rattle.types.specs.declared.records.SegmentInfo.{SegmentInfo}
use Rattle.types.specs.declared.records.Name.{Name}
use Rattle.types.specs.declared.records.OrderingMode.{OrderingMode}
use Rattle.types.specs.declared.records.OrderingMode.TheVariants.{Strict, BrokerManaged}
use Rattle.reading.specs.declared.lines.Line.{Line}
use Rattle.reading.specs.declared.lines.Line.TheVariants.{Session, Update, Layout, Segment, Placement, Error, Resolved, Controller, Secure, End, Query}
use Rattle.reading.specs.Numbers.{number_of, code_of}
use Rattle.reading.specs.Fields.{fields_of, field, letter_of, option_of}
use Rattle.reading.specs.Lists.{list_of, filled}

-- ---- how lines are written: each field goes on to the rest, or the line is unreadable

-- the letter and so many fields in all
abbrev pub counted : List ℕ → ℕ → {A : Type 0} → A → A → A
counted line n read not = cond (eqb (length (fields_of line)) n) read not

-- what a field says goes on to the rest; where it says nothing, there is `not`
abbrev pub given : {A B : Type 0} → Option A → B → (A → B) → B
given (Some a) not rest = rest a
given None not rest = not

-- ---- lines without lists

-- an optional text
abbrev pub name_of : Optional → Name
name_of o = record { present = eqb o.flag 1; text = o.word }

-- the one field after the letter, as a number or as an optional text
unfoldable pub sole_number : List ℕ → Option ℕ
sole_number line = counted line 2 (number_of (field line 1)) None

unfoldable pub sole_name : List ℕ → Option Name
sole_name line = counted line 2 (option_map name_of (option_of (field line 1))) None

-- D: epoch and size
unfoldable pub layout_line : List ℕ → Option Line
layout_line line =
    counted line 3
    (given (number_of (field line 1)) None λ epoch.
    given (number_of (field line 2)) None λ size.
    Some (Layout epoch size))
    None

-- p: id, URL, TLS or `-`
unfoldable pub placement_line : List ℕ → Option Line
placement_line line =
    counted line 4
    (given (number_of (field line 1)) None λ id.
    given (number_of (field line 2)) None λ url.
    given (option_of (field line 3)) None λ tls.
    Some (Placement (record { id = record { 0 = id }; url = url; tls = tls })))
    None

-- e: code, message or `-`
unfoldable pub error_line : List ℕ → Option Line
error_line line =
    counted line 3
    (given (code_of (field line 1)) None λ code.
    given (option_of (field line 2)) None λ message.
    Some (Error code (name_of message)))
    None

-- `.`
unfoldable pub end_line : List ℕ → Option Line
end_line line = counted line 1 (Some End) None

-- ---- lines with lists

-- what a line says, and the words that its lists put at the front of the three areas
pub record Read : Type 0 where
  pub line : Option Line
  pub edges : List ℕ
  pub history : List ℕ
  pub completed : List ℕ

-- a line without lists, or an unreadable one
abbrev pub plain : Option Line → Read
plain l = record { line = l; edges = []; history = []; completed = [] }

-- s, but for its lists: id, hash start and end, state, created epoch, seal or `-`, legacy text or `-`
unfoldable pub row_of : List ℕ → ℕ → ℕ → Option SegmentInfo
row_of line parents children =
    given (number_of (field line 1)) None λ id.
    given (number_of (field line 2)) None λ start.
    given (number_of (field line 3)) None λ end.
    given (number_of (field line 4)) None λ state.
    given (number_of (field line 5)) None λ created.
    given (option_of (field line 6)) None λ sealed.
    given (option_of (field line 7)) None λ legacy.
    Some (record {
      id = record { 0 = id };
      start = start;
      end = end;
      state = state;
      created = created;
      sealed = sealed;
      legacy = legacy;
      parents = parents;
      children = children;
    })

-- s: the parents, then the children, in the room that is left for edges
unfoldable pub segment_line : ℕ → List ℕ → Read
segment_line room line =
    counted line 10
    (given (list_of room (field line 8)) (plain None) λ parents.
    given (list_of (room - length parents) (field line 9)) (plain None) λ children.
    given (row_of line (length parents) (length children)) (plain None) λ info.
    record { line = Some (Segment info); edges = parents ++ children; history = []; completed = [] })
    (plain None)

-- S strict, B broker-managed
abbrev pub mode_of : ℕ → Option OrderingMode
mode_of letter =
    cond (eqb letter (code "S")) (Some Strict)
    (cond (eqb letter (code "B")) (Some BrokerManaged)
    None)

-- O: each list has a room of its own
unfoldable pub query_line : ℕ → ℕ → List ℕ → Read
query_line history_room completed_room line =
    counted line 5
    (given (number_of (field line 1)) (plain None) λ id.
    given (mode_of (letter_of (field line 2))) (plain None) λ mode.
    given (list_of history_room (field line 3)) (plain None) λ history.
    given (list_of completed_room (field line 4)) (plain None) λ completed.
    record {
      line = Some (Query id mode (length history) (length completed));
      edges = [];
      history = history;
      completed = completed;
    })
    (plain None)

-- ---- any line, by its letter, with the room for edges, history and completed

-- the lines without lists
abbrev pub plain_line : ℕ → List ℕ → Option Line
plain_line letter line =
    cond (eqb letter (code "S")) (option_map Session (sole_number line))
    (cond (eqb letter (code "U")) (option_map Update (sole_number line))
    (cond (eqb letter (code "D")) (layout_line line)
    (cond (eqb letter (code "p")) (placement_line line)
    (cond (eqb letter (code "e")) (error_line line)
    (cond (eqb letter (code "n")) (option_map Resolved (sole_name line))
    (cond (eqb letter (code "c")) (option_map Controller (sole_name line))
    (cond (eqb letter (code "t")) (option_map Secure (sole_name line))
    (cond (eqb letter (code ".")) (end_line line)
    None))))))))

unfoldable pub line_of : ℕ → ℕ → ℕ → List ℕ → Read
line_of edges history completed line =
    cond (eqb (letter_of (field line 0)) (code "s")) (segment_line edges line)
    (cond (eqb (letter_of (field line 0)) (code "O")) (query_line history completed line)
    (plain (plain_line (letter_of (field line 0)) line)))

-- ---- what is owed of a call: the line, and the three areas after it. Words past what the lists put there stay

abbrev pub read_of : List ℕ → List ℕ → List ℕ → List ℕ → Read
read_of line edges history completed = line_of (length edges) (length history) (length completed) line

pub record Told (line edges history completed : List ℕ) (r : Option Line) (edges' history' completed' : List ℕ) : Type 0 where
  pub told : r ≡ (read_of line edges history completed).line
  pub edged : edges' ≡ filled edges (read_of line edges history completed).edges
  pub historied : history' ≡ filled history (read_of line edges history completed).history
  pub completes : completed' ≡ filled completed (read_of line edges history completed).completed
