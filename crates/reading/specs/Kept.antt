-- Document 01, "The listing program": a number may have leading zeros, any number of them, and a line is read in bounded room. A digit
-- that comes after a number that so far is a single 0 takes its place, so that a readable line keeps few bytes.
-- Assumes nothing.
use Rattle.std.specs.Prelude.{ℕ, Bool, cond, ◌&&◌, ◌||◌, List, [], ◌∷◌, ◌++◌, eqb, leb, length, take, drop, get_or, ◌-◌, Option, Some, None}
use Rattle.reading.specs.Numbers.{zero_byte, minus_byte, is_digit}
use Rattle.reading.specs.Fields.{space_byte}
use Rattle.reading.specs.Lists.{comma_byte}

-- what a number can stand behind: a space, a comma, the minus of a code
abbrev pub is_edge : ℕ → Bool
is_edge b = eqb b space_byte || (eqb b comma_byte || eqb b minus_byte)

-- do the bytes end in a number that is a single 0?
unfoldable pub lone_zero : List ℕ → Bool
lone_zero line =
    leb 2 (length line) && (eqb (get_or line (length line - 1) 0) zero_byte && is_edge (get_or line (length line - 2) 0))

-- the bytes kept of a line, with one byte more
unfoldable pub keep_byte : List ℕ → ℕ → List ℕ
keep_byte line b = cond (is_digit b && lone_zero line) (take (length line - 1) line ++ (b ∷ [])) (line ++ (b ∷ []))

-- the bytes kept of a whole line
abbrev pub kept_from : List ℕ → List ℕ → List ℕ
kept_from kept [] = kept
kept_from kept (b ∷ s) = kept_from (keep_byte kept b) s

abbrev pub kept_line : List ℕ → List ℕ
kept_line s = kept_from [] s

-- ---- in a buffer: how many bytes are kept, and the buffer. A line that finds it full is too long, and changes nothing

pub record Buffer : Type 0 where
  pub kept : Option ℕ
  pub bytes : List ℕ

abbrev pub stored : List ℕ → List ℕ → Buffer
stored buffer line =
    cond (leb (length line) (length buffer))
    (record { kept = Some (length line); bytes = line ++ drop (length line) buffer })
    (record { kept = None; bytes = buffer })

unfoldable pub after : List ℕ → Option ℕ → ℕ → Buffer
after buffer None b = record { kept = None; bytes = buffer }
after buffer (Some n) b =
    cond (leb n (length buffer)) (stored buffer (keep_byte (take n buffer) b)) (record { kept = None; bytes = buffer })

-- a whole line, byte by byte, into a buffer
abbrev pub run : List ℕ → Option ℕ → List ℕ → Buffer
run buffer k [] = record { kept = k; bytes = buffer }
run buffer k (b ∷ s) = run (after buffer k b).bytes (after buffer k b).kept s
