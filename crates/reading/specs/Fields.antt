-- Document 01, "The listing program": one letter and its fields a line, "`-` for absent or none". Exactly one space stands between two
-- fields, so that two spaces have an empty field between them, and an empty field is unreadable.
-- Assumes nothing.
use Rattle.std.specs.Prelude.{ℕ, suc, cond, List, [], ◌∷◌, eqb, get_or, Option, Some, None}
use Prim.Native.Char.{code}
use Rattle.types.specs.declared.records.Optional.{Optional}
use Rattle.reading.specs.Numbers.{minus_byte, number_of}

abbrev pub space_byte : ℕ
space_byte = code " "

-- the first part is longer by the byte b
abbrev pub push : ℕ → List (List ℕ) → List (List ℕ)
push b [] = (b ∷ []) ∷ []
push b (p ∷ ps) = (b ∷ p) ∷ ps

-- the parts of a text, cut at every separator: one part more than separators
unfoldable pub split : ℕ → List ℕ → List (List ℕ)
split separator [] = [] ∷ []
split separator (b ∷ s) = cond (eqb b separator) ([] ∷ split separator s) (push b (split separator s))

abbrev pub fields_of : List ℕ → List (List ℕ)
fields_of line = split space_byte line

-- how many bytes stand before the first separator, or the end
unfoldable pub up_to : ℕ → List ℕ → ℕ
up_to separator [] = 0
up_to separator (b ∷ s) = cond (eqb b separator) 0 (suc (up_to separator s))

-- a field by its number, from 0; one that is not there is empty
abbrev pub field : List ℕ → ℕ → List ℕ
field line k = get_or (fields_of line) k []

-- the byte that a field of one byte is
unfoldable pub letter_of : List ℕ → ℕ
letter_of [] = 0
letter_of (b ∷ []) = b
letter_of (b ∷ c ∷ s) = 0

abbrev pub present : Option ℕ → Option Optional
present (Some v) = Some (record { flag = 1; word = v })
present None = None

-- `-` or a number; what is neither is None
unfoldable pub option_of : List ℕ → Option Optional
option_of f = cond (eqb (letter_of f) minus_byte) (Some (record { flag = 0; word = 0 })) (present (number_of f))
