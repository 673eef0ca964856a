-- Worked cases of what is read, proved by running the definitions. Each line stands as its bytes, with its text above it.
-- Assumes nothing.
use Rattle.std.specs.Prelude.{Some, None}
use mathlib.Core.Path.{◌≡◌, refl}
use mathlib.Core.Bool.{true, false}
use mathlib.Core.List.{[], ◌∷◌}
use Rattle.types.specs.declared.records.OrderingMode.TheVariants.{BrokerManaged}
use Rattle.reading.specs.declared.lines.Line.TheVariants.{Session, Layout, Segment, Error, Resolved, End, Query}
use Rattle.reading.specs.Numbers.{grown, number_of, code_of}
use Rattle.reading.specs.Fields.{split, letter_of, option_of}
use Rattle.reading.specs.Lists.{numbers_of, list_of}
use Rattle.reading.specs.Lines.{plain, sole_number, sole_name, layout_line, placement_line, error_line, end_line, row_of, segment_line, query_line, line_of}
use Rattle.reading.specs.Kept.{lone_zero, keep_byte, kept_line}

-- ---- numbers

-- ``
number-1 : number_of [] ≡ None
unfolding grown number_of
number-1 = refl

-- `0018446744073709551615`
number-2 : number_of (48 ∷ 48 ∷ 49 ∷ 56 ∷ 52 ∷ 52 ∷ 54 ∷ 55 ∷ 52 ∷ 52 ∷ 48 ∷ 55 ∷ 51 ∷ 55 ∷ 48 ∷ 57 ∷ 53 ∷ 53 ∷ 49 ∷ 54 ∷ 49 ∷ 53 ∷ []) ≡ Some 18446744073709551615
unfolding grown number_of
number-2 = refl

-- `18446744073709551616`
number-3 : number_of (49 ∷ 56 ∷ 52 ∷ 52 ∷ 54 ∷ 55 ∷ 52 ∷ 52 ∷ 48 ∷ 55 ∷ 51 ∷ 55 ∷ 48 ∷ 57 ∷ 53 ∷ 53 ∷ 49 ∷ 54 ∷ 49 ∷ 54 ∷ []) ≡ None
unfolding grown number_of
number-3 = refl

-- `+7`
number-4 : number_of (43 ∷ 55 ∷ []) ≡ None
unfolding grown number_of
number-4 = refl

-- ---- codes

-- `-2147483648`
code-1 : code_of (45 ∷ 50 ∷ 49 ∷ 52 ∷ 55 ∷ 52 ∷ 56 ∷ 51 ∷ 54 ∷ 52 ∷ 56 ∷ []) ≡ Some 2147483648
unfolding grown number_of code_of
code-1 = refl

-- `-2147483649`
code-2 : code_of (45 ∷ 50 ∷ 49 ∷ 52 ∷ 55 ∷ 52 ∷ 56 ∷ 51 ∷ 54 ∷ 52 ∷ 57 ∷ []) ≡ None
unfolding grown number_of code_of
code-2 = refl

-- `2147483648`
code-3 : code_of (50 ∷ 49 ∷ 52 ∷ 55 ∷ 52 ∷ 56 ∷ 51 ∷ 54 ∷ 52 ∷ 56 ∷ []) ≡ None
unfolding grown number_of code_of
code-3 = refl

-- `-0`
code-4 : code_of (45 ∷ 48 ∷ []) ≡ Some 0
unfolding grown number_of code_of
code-4 = refl

-- `-1`
code-5 : code_of (45 ∷ 49 ∷ []) ≡ Some 4294967295
unfolding grown number_of code_of
code-5 = refl

-- ---- lists, each in its room

-- `-` in 64
list-1 : list_of 64 (45 ∷ []) ≡ Some []
unfolding grown number_of split letter_of numbers_of list_of
list-1 = refl

-- `2,3` in 2
list-2 : list_of 2 (50 ∷ 44 ∷ 51 ∷ []) ≡ Some (2 ∷ 3 ∷ [])
unfolding grown number_of split letter_of numbers_of list_of
list-2 = refl

-- `2,3` in 1
list-3 : list_of 1 (50 ∷ 44 ∷ 51 ∷ []) ≡ None
unfolding grown number_of split letter_of numbers_of list_of
list-3 = refl

-- `1,,2` in 64
list-4 : list_of 64 (49 ∷ 44 ∷ 44 ∷ 50 ∷ []) ≡ None
unfolding grown number_of split letter_of numbers_of list_of
list-4 = refl

-- `1,` in 64
list-5 : list_of 64 (49 ∷ 44 ∷ []) ≡ None
unfolding grown number_of split letter_of numbers_of list_of
list-5 = refl

-- ---- lines

-- `S 7`
line-1 : line_of 64 64 64 (83 ∷ 32 ∷ 55 ∷ []) ≡ plain (Some (Session 7))
unfolding grown number_of code_of split letter_of option_of numbers_of list_of sole_number sole_name layout_line placement_line error_line end_line row_of segment_line query_line line_of
line-1 = refl

-- `S  7`
line-2 : line_of 64 64 64 (83 ∷ 32 ∷ 32 ∷ 55 ∷ []) ≡ plain None
unfolding grown number_of code_of split letter_of option_of numbers_of list_of sole_number sole_name layout_line placement_line error_line end_line row_of segment_line query_line line_of
line-2 = refl

-- `S 7 `
line-3 : line_of 64 64 64 (83 ∷ 32 ∷ 55 ∷ 32 ∷ []) ≡ plain None
unfolding grown number_of code_of split letter_of option_of numbers_of list_of sole_number sole_name layout_line placement_line error_line end_line row_of segment_line query_line line_of
line-3 = refl

-- ``
line-4 : line_of 64 64 64 [] ≡ plain None
unfolding grown number_of code_of split letter_of option_of numbers_of list_of sole_number sole_name layout_line placement_line error_line end_line row_of segment_line query_line line_of
line-4 = refl

-- `.`
line-5 : line_of 64 64 64 (46 ∷ []) ≡ plain (Some End)
unfolding grown number_of code_of split letter_of option_of numbers_of list_of sole_number sole_name layout_line placement_line error_line end_line row_of segment_line query_line line_of
line-5 = refl

-- `D 3 150`
line-6 : line_of 64 64 64 (68 ∷ 32 ∷ 51 ∷ 32 ∷ 49 ∷ 53 ∷ 48 ∷ []) ≡ plain (Some (Layout 3 150))
unfolding grown number_of code_of split letter_of option_of numbers_of list_of sole_number sole_name layout_line placement_line error_line end_line row_of segment_line query_line line_of
line-6 = refl

-- `p 1 - -`
line-7 : line_of 64 64 64 (112 ∷ 32 ∷ 49 ∷ 32 ∷ 45 ∷ 32 ∷ 45 ∷ []) ≡ plain None
unfolding grown number_of code_of split letter_of option_of numbers_of list_of sole_number sole_name layout_line placement_line error_line end_line row_of segment_line query_line line_of
line-7 = refl

-- `e -5 -`
line-8 : line_of 64 64 64 (101 ∷ 32 ∷ 45 ∷ 53 ∷ 32 ∷ 45 ∷ []) ≡ plain (Some (Error 4294967291 (record { present = false; text = 0 })))
unfolding grown number_of code_of split letter_of option_of numbers_of list_of sole_number sole_name layout_line placement_line error_line end_line row_of segment_line query_line line_of
line-8 = refl

-- `n 4`
line-9 : line_of 64 64 64 (110 ∷ 32 ∷ 52 ∷ []) ≡ plain (Some (Resolved (record { present = true; text = 4 })))
unfolding grown number_of code_of split letter_of option_of numbers_of list_of sole_number sole_name layout_line placement_line error_line end_line row_of segment_line query_line line_of
line-9 = refl

-- `O 3 B - 1`
line-10 : line_of 64 64 64 (79 ∷ 32 ∷ 51 ∷ 32 ∷ 66 ∷ 32 ∷ 45 ∷ 32 ∷ 49 ∷ []) ≡ record { line = Some (Query 3 BrokerManaged 0 1); edges = []; history = []; completed = 1 ∷ [] }
unfolding grown number_of code_of split letter_of option_of numbers_of list_of sole_number sole_name layout_line placement_line error_line end_line row_of segment_line query_line line_of
line-10 = refl

-- `s 1 0 65535 2 0 3 - - 2,3`
line-11 : line_of 64 64 64 (115 ∷ 32 ∷ 49 ∷ 32 ∷ 48 ∷ 32 ∷ 54 ∷ 53 ∷ 53 ∷ 51 ∷ 53 ∷ 32 ∷ 50 ∷ 32 ∷ 48 ∷ 32 ∷ 51 ∷ 32 ∷ 45 ∷ 32 ∷ 45 ∷ 32 ∷ 50 ∷ 44 ∷ 51 ∷ []) ≡ record { line = Some (Segment (record { id = record { 0 = 1 }; start = 0; end = 65535; state = 2; created = 0; sealed = record { flag = 1; word = 3 }; legacy = record { flag = 0; word = 0 }; parents = 0; children = 2 })); edges = 2 ∷ 3 ∷ []; history = []; completed = [] }
unfolding grown number_of code_of split letter_of option_of numbers_of list_of sole_number sole_name layout_line placement_line error_line end_line row_of segment_line query_line line_of
line-11 = refl

-- ---- what is kept of a line

-- `S 007`
kept-1 : kept_line (83 ∷ 32 ∷ 48 ∷ 48 ∷ 55 ∷ []) ≡ (83 ∷ 32 ∷ 55 ∷ [])
unfolding lone_zero keep_byte
kept-1 = refl

-- `e -005 0`
kept-2 : kept_line (101 ∷ 32 ∷ 45 ∷ 48 ∷ 48 ∷ 53 ∷ 32 ∷ 48 ∷ []) ≡ (101 ∷ 32 ∷ 45 ∷ 53 ∷ 32 ∷ 48 ∷ [])
unfolding lone_zero keep_byte
kept-2 = refl

-- `O 1 S 00,1 -`
kept-3 : kept_line (79 ∷ 32 ∷ 49 ∷ 32 ∷ 83 ∷ 32 ∷ 48 ∷ 48 ∷ 44 ∷ 49 ∷ 32 ∷ 45 ∷ []) ≡ (79 ∷ 32 ∷ 49 ∷ 32 ∷ 83 ∷ 32 ∷ 48 ∷ 44 ∷ 49 ∷ 32 ∷ 45 ∷ [])
unfolding lone_zero keep_byte
kept-3 = refl
