-- A line of any length is read as it came: what is kept of it fits the buffer and reads as the line, or it is too long for the buffer and
-- unreadable. Assumes nothing.
use Rattle.std.specs.Prelude.{Some}
use mathlib.Core.Path.{◌≡◌, sym}
use mathlib.Core.List.{List}
use Prim.Native.Nat.{ℕ, ◌<◌, ◌≤◌}
use native.Mathlib.Omega.{arith}
use native.Mathlib.Decide.{dec_lt}
use lib.ListN.{length}
use Rattle.reading.specs.Kept.{kept_line, run}
use Rattle.reading.specs.Lines.{line_of}
use Rattle.reading.proofs.Run.{Holds, line_kept, line-long}
use Rattle.reading.specs.LongLines.{read_kept, Roomy, AnyLength, line_bytes, list_words}
use Rattle.reading.proofs.KeptReads.{kept-reads}
use Rattle.reading.proofs.KeptLong.{kept-long}

pub any-length : (buffer : List ℕ) (edges history completed : ℕ) → Roomy (length buffer) edges history completed → AnyLength buffer edges history completed
any-length buffer edges history completed roomy s = go (dec_lt (length buffer) (length (kept_line s)))
  where
    go : Dec (length buffer < length (kept_line s)) → read_kept edges history completed (run buffer (Some 0) s) ≡ line_of edges history completed s
    go (yes l) = rw (line-long s buffer l) (sym (kept-long s edges history completed (length buffer) roomy l))
    go (no n) =
        let h : Holds (kept_line s) (run buffer (Some 0) s) = line_kept s buffer (omega arith) in
        rw (h.0, h.1) (kept-reads s edges history completed)

-- the listing's buffer, with as many edge words left as there may be
pub listing-lines : (buffer : List ℕ) (edges : ℕ) → length buffer ≡ line_bytes → edges ≤ list_words → AnyLength buffer edges list_words list_words
listing-lines buffer edges l h = any-length buffer edges list_words list_words (record { segment = omega arith; query = omega arith })
