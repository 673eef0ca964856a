-- Document 01, "The listing program": "`-` for absent or none and comma lists". Every item is a number, so that an empty item is
-- unreadable; so is a list with more items than its room.
-- Assumes nothing.
use Rattle.std.specs.Prelude.{ℕ, zero, suc, cond, List, [], ◌∷◌, ◌++◌, eqb, length, drop, Option, Some, None}
use Prim.Native.Char.{code}
use Rattle.reading.specs.Numbers.{minus_byte, number_of}
use Rattle.reading.specs.Fields.{split, letter_of}

abbrev pub comma_byte : ℕ
comma_byte = code ","

abbrev pub items_of : List ℕ → List (List ℕ)
items_of field = split comma_byte field

-- a number before a list, where both are there
abbrev pub before : Option ℕ → Option (List ℕ) → Option (List ℕ)
before (Some v) (Some vs) = Some (v ∷ vs)
before (Some v) None = None
before None vs = None

-- the numbers of at most so many items
unfoldable pub numbers_of : ℕ → List (List ℕ) → Option (List ℕ)
numbers_of room [] = Some []
numbers_of zero (i ∷ is) = None
numbers_of (suc room) (i ∷ is) = before (number_of i) (numbers_of room is)

-- `-` or items
unfoldable pub list_of : ℕ → List ℕ → Option (List ℕ)
list_of room field = cond (eqb (letter_of field) minus_byte) (Some []) (numbers_of room (items_of field))

-- a list told by its length; an unreadable one is None
abbrev pub listed : Option (List ℕ) → Option ℕ
listed None = None
listed (Some vs) = Some (length vs)

-- what a list puts into the words lent for it: nothing where it is unreadable
abbrev pub list_words : Option (List ℕ) → List ℕ
list_words None = []
list_words (Some vs) = vs

-- the words with vs at the front. Words past them stay
abbrev pub filled : List ℕ → List ℕ → List ℕ
filled words vs = vs ++ drop (length vs) words

-- ---- what is written while items are read one by one: the numbers before the first item that is none, as many as there is room for

abbrev pub front_with : Option ℕ → List ℕ → List ℕ
front_with (Some v) vs = v ∷ vs
front_with None vs = []

unfoldable pub front : ℕ → List (List ℕ) → List ℕ
front room [] = []
front zero (i ∷ is) = []
front (suc room) (i ∷ is) = front_with (number_of i) (front room is)
