-- Document 01: "comma lists", and "`-` for absent or none".
-- Assumes nothing.
use Rattle.std.specs.Prelude.{ℕ, List, [], ◌∷◌, ◌++◌, map, take}
use Prim.Native.Char.{code}
use Rattle.texts.specs.Decimal.{decimal}

abbrev pub commas_after : List (List ℕ) → List ℕ
commas_after [] = []
commas_after (t ∷ ts) = code "," ∷ (t ++ commas_after ts)

unfoldable pub commas : List (List ℕ) → List ℕ
commas [] = code "-" ∷ []
commas (t ∷ ts) = t ++ commas_after ts

-- the first n numbers of a lent list, or as many as it has
unfoldable pub listed : ℕ → List ℕ → List ℕ
listed n l = commas (take n (map decimal l))

-- the words of a lent list two by two, with a mark between the two; a last word without a second is none
abbrev pub pair_texts : ℕ → List ℕ → List (List ℕ)
pair_texts mark (x ∷ y ∷ l) = (decimal x ++ (mark ∷ decimal y)) ∷ pair_texts mark l
pair_texts mark (x ∷ []) = []
pair_texts mark [] = []

-- the first n pairs of a lent list, or as many as it has
unfoldable pub pairs_listed : ℕ → ℕ → List ℕ → List ℕ
pairs_listed mark n l = commas (take n (pair_texts mark l))
