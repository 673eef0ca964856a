-- Document 01, "The listing program": "with a number above 64 bits (a code: 32, signed) is unreadable". A number is digits, at least one,
-- leading zeros allowed; a code may have `-` before them. Bytes are numbers; what is no number or no code is None.
-- Assumes nothing.
use Rattle.std.specs.Prelude.{ℕ, ◌+◌, ◌*◌, ◌-◌, ◌^◌, Bool, cond, ◌&&◌, List, [], ◌∷◌, eqb, ltb, leb, Option, Some, None}
use Prim.Native.Char.{code}

abbrev pub zero_byte : ℕ
zero_byte = code "0"

abbrev pub minus_byte : ℕ
minus_byte = code "-"

abbrev pub is_digit : ℕ → Bool
is_digit b = leb zero_byte b && leb b (code "9")

-- where it is below 2 ^ 64
abbrev pub within64 : ℕ → Option ℕ
within64 v = cond (ltb v (2 ^ 64)) (Some v) None

-- the number with one digit more; none where the byte is no digit
unfoldable pub grown : ℕ → ℕ → Option ℕ
grown number b = cond (is_digit b) (within64 (number * 10 + (b - zero_byte))) None

-- the number with all those digits more
abbrev pub onward : Option ℕ → List ℕ → Option ℕ
onward n [] = n
onward (Some v) (b ∷ s) = onward (grown v b) s
onward None (b ∷ s) = None

unfoldable pub number_of : List ℕ → Option ℕ
number_of [] = None
number_of (b ∷ s) = onward (Some 0) (b ∷ s)

-- 0 to 2 ^ 31 - 1
abbrev pub plain_code : Option ℕ → Option ℕ
plain_code None = None
plain_code (Some v) = cond (ltb v 2147483648) (Some v) None

-- -0 to -2 ^ 31, in 32 bits
abbrev pub minus_code : Option ℕ → Option ℕ
minus_code None = None
minus_code (Some v) = cond (eqb v 0) (Some 0) (cond (leb v 2147483648) (Some (4294967296 - v)) None)

unfoldable pub code_of : List ℕ → Option ℕ
code_of [] = None
code_of (b ∷ s) = cond (eqb b minus_byte) (minus_code (number_of s)) (plain_code (number_of (b ∷ s)))
