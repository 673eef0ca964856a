-- Document 01, "The listing program": it holds "64 edge words an update, 64 ids an O list", and a number may have any number of leading zeros,
-- so that a readable line may be longer than any buffer. In a buffer that is roomy enough a line of any length is read as it came.
-- Assumes nothing.
use Rattle.std.specs.Prelude.{Option, Some, None}
use Rattle.std.specs.Prelude.{◌≡◌, ℕ, ◌+◌, ◌*◌, ◌≤◌, List, take}
use Rattle.reading.specs.Kept.{Buffer, run}
use Rattle.reading.specs.Lines.{Read, plain, line_of}

-- what is read of the bytes that are kept; of a line that found the buffer full, that it is unreadable
abbrev pub read_bytes : ℕ → ℕ → ℕ → Option ℕ → List ℕ → Read
read_bytes edges history completed (Some n) bytes = line_of edges history completed (take n bytes)
read_bytes edges history completed None bytes = plain None

abbrev pub read_kept : ℕ → ℕ → ℕ → Buffer → Read
read_kept edges history completed B = read_bytes edges history completed B.kept B.bytes

-- 200 bytes, and 21 for each number of a list: as many bytes as are kept of a readable line, or more
pub record Roomy (buffer edges history completed : ℕ) : Type 0 where
  pub segment : 21 * edges + 200 ≤ buffer
  pub query : 21 * (history + completed) + 200 ≤ buffer

-- a line of any length, taken byte by byte into the buffer, is read as it came
abbrev pub AnyLength : List ℕ → ℕ → ℕ → ℕ → Type 0
AnyLength buffer edges history completed =
    (line : List ℕ) → read_kept edges history completed (run buffer (Some 0) line) ≡ line_of edges history completed line

-- ---- the listing's

abbrev pub line_bytes : ℕ
line_bytes = 4096

abbrev pub list_words : ℕ
list_words = 64
