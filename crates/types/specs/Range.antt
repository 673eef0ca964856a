-- `KeyRange` of types.rs, with 10 to 12 of document 01 ("`KeyRange` alone uses 10 to 12 without the id; a range that `new` refuses has length 0").
-- Assumes nothing.
use Rattle.std.specs.Prelude.{ℕ, ◌+◌, ◌-◌, Bool, cond, ◌&&◌, ◌||◌, List, [], ◌∷◌, Result, Ok, Err, leb, ltb, eqb}
use Rattle.types.specs.declared.range.KeyRange.{KeyRange}
use Rattle.types.specs.declared.range.RangeError.{RangeError}
use Rattle.types.specs.declared.range.RangeError.TheVariants.{StartOutOfBounds, EndOutOfBounds, Reversed}

-- what `KeyRange::new` answers
abbrev pub Made : Type 0
Made = Result KeyRange RangeError

-- start above 65535, then end above 65535, then end before start: the first that applies
abbrev pub range_of : ℕ → ℕ → Made
range_of start end =
    cond (ltb 65535 start) (Err (StartOutOfBounds start))
    (cond (ltb 65535 end) (Err (EndOutOfBounds end))
    (cond (ltb end start) (Err (Reversed start end))
    (Ok (record { start = start; end = end }))))

-- 01's number and values for each case; 0 and nothing for a range
abbrev pub range_number : Made → ℕ
range_number (Ok r) = 0
range_number (Err (StartOutOfBounds s)) = 10
range_number (Err (EndOutOfBounds e)) = 11
range_number (Err (Reversed s e)) = 12

abbrev pub range_values : Made → List ℕ
range_values (Ok r) = []
range_values (Err (StartOutOfBounds s)) = s ∷ []
range_values (Err (EndOutOfBounds e)) = e ∷ []
range_values (Err (Reversed s e)) = s ∷ e ∷ []

abbrev pub made_width : Made → ℕ
made_width (Ok r) = r.end - r.start + 1
made_width (Err (StartOutOfBounds s)) = 0
made_width (Err (EndOutOfBounds e)) = 0
made_width (Err (Reversed s e)) = 0

-- how many hashes; 0 for a range that `new` refuses
abbrev pub width_of : KeyRange → ℕ
width_of r = made_width (range_of r.start r.end)

abbrev pub is_empty : KeyRange → Bool
is_empty r = eqb (width_of r) 0

abbrev pub holds : KeyRange → ℕ → Bool
holds r h = leb r.start h && leb h r.end

abbrev pub holds_all : KeyRange → KeyRange → Bool
holds_all r o = leb r.start o.start && leb o.end r.end

-- nothing follows a range that ends with the last hash
abbrev pub follows : KeyRange → KeyRange → Bool
follows r o = ltb r.end 65535 && eqb (r.end + 1) o.start

abbrev pub touches : KeyRange → KeyRange → Bool
touches r o = follows r o || follows o r
