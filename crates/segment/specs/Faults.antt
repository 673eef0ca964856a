-- What is wrong with an edge list, told by no number yet: "item by item, and the first bad item ends it, self edge before duplicate".
-- Assumes nothing.
use Rattle.std.specs.Prelude.{ℕ, cond, List, [], ◌∷◌, ◌++◌, Result, Ok, Err, eqb}
use Rattle.lists.specs.Lists.{has}
use Rattle.answers.specs.declared.RefusalWords.{RefusalWords}
use Rattle.answers.specs.Answer.{Judged, Accepted, Refused, words_by, words_of}
use Rattle.segment.specs.declared.list.ListFault.{ListFault}
use Rattle.segment.specs.declared.list.ListFault.TheVariants.{SelfEdge, Duplicate}

-- nothing, or the fault
abbrev pub Faulted : Type 0
Faulted = Result (Unit {0}) ListFault

-- the items after those of `before`
unfoldable pub fault_from : ℕ → List ℕ → List ℕ → Faulted
fault_from id before [] = Ok tt
fault_from id before (x ∷ xs) =
    cond (eqb x id) (Err SelfEdge)
    (cond (has x before) (Err (Duplicate x))
    (fault_from id (before ++ (x ∷ [])) xs))

unfoldable pub fault_of : ℕ → List ℕ → Faulted
fault_of id list = fault_from id [] list

-- in words: 19 with the id for a self edge, the given number with the id and the item for a duplicate
abbrev pub numbered : ℕ → ℕ → Faulted → Result (Unit {0}) RefusalWords
numbered number id (Ok tt) = Ok tt
numbered number id (Err SelfEdge) = Err (words_by 19 (id ∷ []))
numbered number id (Err (Duplicate x)) = Err (words_by number (id ∷ x ∷ []))

-- an answer of the rules, in words
abbrev pub in_words : Judged → Result (Unit {0}) RefusalWords
in_words Accepted = Ok tt
in_words (Refused r) = Err (words_of r)
