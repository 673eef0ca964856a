-- Words in decimal, as bytes; 41's code with its sign.
-- Assumes nothing.
use Rattle.std.specs.Prelude.{ℕ, zero, suc, ◌+◌, ◌-◌, ◌/◌, ◌%◌, Bool, cond, ◌&&◌, List, [], ◌∷◌, ltb, leb}
use Prim.Native.Char.{code}

-- the ASCII code of a digit
abbrev pub glyph : ℕ → ℕ
glyph d = 48 + d

-- the digits of n, at most k of them, before those that stand already
abbrev pub digits_before : ℕ → ℕ → List ℕ → List ℕ
digits_before zero n ds = ds
digits_before (suc k) n ds = cond (ltb n 10) (glyph n ∷ ds) (digits_before k (n / 10) (glyph (n % 10) ∷ ds))

-- a word in decimal, without leading zeros: 64 bits have at most 20 digits
unfoldable pub decimal : ℕ → List ℕ
decimal n = digits_before 20 n []

-- "signed code": a word of 32 bits from 2 ^ 31 on stands for the number below zero that has these 32 bits
abbrev pub below_zero : ℕ → Bool
below_zero w = leb 2147483648 w && ltb w 4294967296

unfoldable pub signed : ℕ → List ℕ
signed w = cond (below_zero w) (code "-" ∷ decimal (4294967296 - w)) (decimal w)
