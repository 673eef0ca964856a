-- Two lines with as many fields, the same letter, and fields that say the same read the same. By the definitions of the lines.
-- Assumes nothing.
use mathlib.Core.Path.{◌≡◌, refl}
use mathlib.Core.List.{List}
use Prim.Native.Nat.{ℕ, suc}
use lib.ListN.{length}
use Rattle.reading.specs.Numbers.{number_of, code_of}
use Rattle.reading.specs.Fields.{fields_of, field, letter_of, option_of}
use Rattle.reading.specs.Lists.{list_of}
use Rattle.reading.specs.Lines.{mode_of, sole_number, sole_name, layout_line, placement_line, error_line, end_line, row_of, segment_line, query_line, plain_line, line_of}

pub record Same (a b : List ℕ) : Type 0 where
  pub count : length (fields_of a) ≡ length (fields_of b)
  pub letter : letter_of (field a 0) ≡ letter_of (field b 0)
  pub number : (k : ℕ) → number_of (field a (suc k)) ≡ number_of (field b (suc k))
  pub code : (k : ℕ) → code_of (field a (suc k)) ≡ code_of (field b (suc k))
  pub option : (k : ℕ) → option_of (field a (suc k)) ≡ option_of (field b (suc k))
  pub mode : (k : ℕ) → mode_of (letter_of (field a (suc k))) ≡ mode_of (letter_of (field b (suc k)))
  pub list : (k room : ℕ) → list_of room (field a (suc k)) ≡ list_of room (field b (suc k))

module _ (a b : List ℕ) (s : Same a b) where
  sole-number : sole_number a ≡ sole_number b
  unfolding sole_number
  sole-number = rw (s.count, s.number 0) refl

  sole-name : sole_name a ≡ sole_name b
  unfolding sole_name
  sole-name = rw (s.count, s.option 0) refl

  layout : layout_line a ≡ layout_line b
  unfolding layout_line
  layout = rw (s.count, s.number 0, s.number 1) refl

  placement : placement_line a ≡ placement_line b
  unfolding placement_line
  placement = rw (s.count, s.number 0, s.number 1, s.option 2) refl

  error : error_line a ≡ error_line b
  unfolding error_line
  error = rw (s.count, s.code 0, s.option 1) refl

  end : end_line a ≡ end_line b
  unfolding end_line
  end = rw s.count refl

  row : (parents children : ℕ) → row_of a parents children ≡ row_of b parents children
  unfolding row_of
  row parents children = rw (s.number 0, s.number 1, s.number 2, s.number 3, s.number 4, s.option 5, s.option 6) refl

  segment : (room : ℕ) → segment_line room a ≡ segment_line room b
  unfolding segment_line
  segment room = simp (s.count, s.list 7, s.list 8, row)

  query : (history completed : ℕ) → query_line history completed a ≡ query_line history completed b
  unfolding query_line
  query history completed = rw (s.count, s.number 0, s.mode 1, s.list 2 history, s.list 3 completed) refl

  plain-line : (letter : ℕ) → plain_line letter a ≡ plain_line letter b
  plain-line letter = rw (sole-number, sole-name, layout, placement, error, end) refl

  pub same_line : (edges history completed : ℕ) → line_of edges history completed a ≡ line_of edges history completed b
  unfolding line_of
  same_line edges history completed = rw (s.letter, segment edges, query history completed, plain-line (letter_of (field b 0))) refl
