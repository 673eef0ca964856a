-- A line of which more bytes are kept than a readable line can have is unreadable: it has another count of fields, or one of them is too long
-- to say anything. A readable field has at most 21 bytes and a list at most 21 for each number. Assumes nothing.
use Rattle.std.specs.Prelude.{option_map, None}
use mathlib.Core.Path.{◌≡◌, refl}
use mathlib.Core.Bool.{Bool, true, false, cond}
use mathlib.Core.List.{List}
use Prim.Native.Nat.{ℕ, ◌+◌, ◌*◌, ◌-◌, ◌<◌, ◌≤◌}
use native.Mathlib.Omega.{arith}
use borrow.Author.Tests.{eqb-true, eqb-false}
use lib.Dec.{eqb}
use lib.ListN.{length}
use Rattle.types.specs.declared.records.Optional.{Optional}
use Rattle.types.specs.declared.records.OrderingMode.{OrderingMode}
use Rattle.types.specs.declared.records.SegmentInfo.{SegmentInfo}
use Rattle.reading.specs.Numbers.{number_of, code_of}
use Rattle.reading.specs.Fields.{fields_of, field, letter_of, option_of}
use Rattle.reading.specs.Lists.{list_of}
use Rattle.reading.specs.Lines.{plain, counted, given, mode_of, sole_number, sole_name, layout_line, placement_line, error_line, end_line, row_of, segment_line, query_line, plain_line, line_of, name_of}
use Rattle.reading.specs.Kept.{kept_line}
use Rattle.reading.specs.LongLines.{Roomy}
use Rattle.reading.proofs.FieldLengths.{letter-short}
use Rattle.reading.proofs.Sizes.{Size, number-else, code-else, option-else, mode-else, list-else, sum_to, size, letter-first, kept-size}

-- ---- a line goes on field by field, or is unreadable

counted-else : {A : Type 0} (s : List ℕ) (n : ℕ) (read not : A) → (length (fields_of s) ≡ n → read ≡ not) → counted s n read not ≡ not
counted-else s n read not h = go (eqb (length (fields_of s)) n) refl
  where
    go : (t : Bool) → eqb (length (fields_of s)) n ≡ t → cond t read not ≡ not
    go true e = h (eqb-true (length (fields_of s)) n e)
    go false e = refl

-- a field that says something is short, so that it says nothing where that is refuted
module _ {A : Type 0} (f : List ℕ) (not : A) where
  number-then : (rest : ℕ → A) → ((v : ℕ) → Size f ≤ 20 → rest v ≡ not) → given (number_of f) not rest ≡ not
  number-then rest = number-else not f (λ n. given n not rest) refl

  code-then : (rest : ℕ → A) → ((v : ℕ) → Size f ≤ 21 → rest v ≡ not) → given (code_of f) not rest ≡ not
  code-then rest = code-else not f (λ n. given n not rest) refl

  option-then : (rest : Optional → A) → ((o : Optional) → Size f ≤ 20 → rest o ≡ not) → given (option_of f) not rest ≡ not
  option-then rest = option-else not f (λ n. given n not rest) refl

  mode-then : (rest : OrderingMode → A) → ((m : OrderingMode) → Size f ≤ 1 → rest m ≡ not) → given (mode_of (letter_of f)) not rest ≡ not
  mode-then rest = mode-else not f (λ n. given n not rest) refl

  list-then : (room : ℕ) (rest : List ℕ → A) → ((vs : List ℕ) → Size f ≤ 21 * length vs + 1 → length vs ≤ room → rest vs ≡ not)
      → given (list_of room f) not rest ≡ not
  list-then room rest = list-else not f room (λ o. given o not rest) refl

row-then : {A : Type 0} (s : List ℕ) (parents children : ℕ) (not : A) (rest : SegmentInfo → A) → row_of s parents children ≡ None
    → given (row_of s parents children) not rest ≡ not
row-then s parents children not rest e = rw e refl

either : {A : Type 0} (t : Bool) (x : A) → cond t x x ≡ x
either true x = refl
either false x = refl

-- ---- the lines without lists

module _ (s : List ℕ) (one : size s 0 ≤ 1) where
  module _ (long : 200 ≤ length (kept_line s)) where
    sole-number : sole_number s ≡ None
    unfolding sole_number size sum_to
    sole-number = counted-else s 2 _ _ (λ n. number-else None (field s 1) (λ m. m) refl (λ v p. absurd (omega (arith, kept-size s 2 n))))

    sole-name : sole_name s ≡ None
    unfolding sole_name size sum_to
    sole-name = counted-else s 2 _ _ (λ n. option-else None (field s 1) (λ m. option_map name_of m) refl (λ v p. absurd (omega (arith, kept-size s 2 n))))

    layout : layout_line s ≡ None
    unfolding layout_line size sum_to
    layout = counted-else s 3 _ _ (λ n. number-then (field s 1) _ _ (λ v p. number-then (field s 2) _ _ (λ w q. absurd (omega (arith, kept-size s 3 n)))))

    placement : placement_line s ≡ None
    unfolding placement_line size sum_to
    placement = counted-else s 4 _ _ (λ n. number-then (field s 1) _ _ (λ v p. number-then (field s 2) _ _ (λ w q. option-then (field s 3) _ _ (λ o r. absurd (omega (arith, kept-size s 4 n))))))

    error : error_line s ≡ None
    unfolding error_line size sum_to
    error = counted-else s 3 _ _ (λ n. code-then (field s 1) _ _ (λ v p. option-then (field s 2) _ _ (λ o q. absurd (omega (arith, kept-size s 3 n)))))

    end : end_line s ≡ None
    unfolding end_line size sum_to
    end = counted-else s 1 _ _ (λ n. absurd (omega (arith, kept-size s 1 n)))

    plain-line : (letter : ℕ) → plain_line letter s ≡ None
    plain-line letter = simp (sole-number, sole-name, layout, placement, error, end, either)

  -- ---- the lines with lists

  row : (parents children : ℕ) → length (fields_of s) ≡ 10 → Size (field s 8) + Size (field s 9) + 151 ≤ length (kept_line s) → row_of s parents children ≡ None
  unfolding row_of size sum_to
  row parents children n h =
      number-then (field s 1) _ _ (λ v₁ p₁.
      number-then (field s 2) _ _ (λ v₂ p₂.
      number-then (field s 3) _ _ (λ v₃ p₃.
      number-then (field s 4) _ _ (λ v₄ p₄.
      number-then (field s 5) _ _ (λ v₅ p₅.
      option-then (field s 6) _ _ (λ v₆ p₆.
      option-then (field s 7) _ _ (λ v₇ p₇. absurd (omega (arith, kept-size s 10 n)))))))))

  segment : (room : ℕ) → 21 * room + 200 ≤ length (kept_line s) → segment_line room s ≡ plain None
  unfolding segment_line
  segment room h =
      counted-else s 10 _ _ (λ n.
      list-then (field s 8) _ room _ (λ ps p a.
      list-then (field s 9) _ (room - length ps) _ (λ cs q b.
      row-then s (length ps) (length cs) _ _ (row (length ps) (length cs) n (omega arith)))))

  query : (history completed : ℕ) → 21 * (history + completed) + 200 ≤ length (kept_line s) → query_line history completed s ≡ plain None
  unfolding query_line size sum_to
  query history completed h =
      counted-else s 5 _ _ (λ n.
      number-then (field s 1) _ _ (λ v p.
      mode-then (field s 2) _ _ (λ m q.
      list-then (field s 3) _ history _ (λ hs a b.
      list-then (field s 4) _ completed _ (λ cs c d. absurd (omega (arith, kept-size s 5 n)))))))

-- ---- any line

pub kept-long : (s : List ℕ) (edges history completed n : ℕ) → Roomy n edges history completed → n < length (kept_line s)
    → line_of edges history completed s ≡ plain None
unfolding line_of
kept-long s edges history completed n roomy long = go (eqb (letter_of (field s 0)) 0) refl
  where
    go : (t : Bool) → eqb (letter_of (field s 0)) 0 ≡ t → line_of edges history completed s ≡ plain None
    go true e = rw (eqb-true (letter_of (field s 0)) 0 e) refl
    go false e =
        let one : size s 0 ≤ 1 = letter-first s (letter-short 0 (field s 0) (eqb-false (letter_of (field s 0)) 0 e)) in
        let a : 21 * edges + 200 ≤ length (kept_line s) = omega (arith, roomy.segment) in
        let b : 21 * (history + completed) + 200 ≤ length (kept_line s) = omega (arith, roomy.query) in
        let c : 200 ≤ length (kept_line s) = omega arith in
        simp (segment s one edges a, query s one history completed b, plain-line s one c, either)
