-- What is kept of a line reads as the line: a kept line is a bare one, its fields are bare fields, and a bare field says what the field
-- says. Assumes nothing.
use mathlib.Core.Path.{◌≡◌, refl, ap, ◌∙◌}
use mathlib.Core.List.{List}
use Prim.Native.Nat.{ℕ, suc}
use lib.ListN.{length}
use Rattle.reading.specs.Fields.{fields_of, field, letter_of}
use Rattle.reading.specs.Lines.{mode_of, line_of}
use Rattle.reading.specs.Kept.{kept_line}
use Rattle.reading.proofs.Bare.{bare, kept-bare}
use Rattle.reading.proofs.BareParts.{split_bare, parts-length, part-first, part-later, bare_parts}
use Rattle.reading.proofs.BareFields.{number-bare, code-bare, letter-bare, asked-bare, option-bare, list-bare}
use Rattle.reading.proofs.SameLine.{Same, same_line}

module _ (s : List ℕ) where
  fields : fields_of (kept_line s) ≡ bare_parts 32 0 (fields_of s)
  fields = ap fields_of (kept-bare s) ∙ split_bare 32 refl s 0

  pub kept-count : length (fields_of (kept_line s)) ≡ length (fields_of s)
  kept-count = rw fields (parts-length 32 0 (fields_of s))

  pub field-first : field (kept_line s) 0 ≡ bare 0 (field s 0)
  field-first = rw fields (part-first 32 0 (fields_of s))

  pub field-later : (k : ℕ) → field (kept_line s) (suc k) ≡ bare 32 (field s (suc k))
  field-later k = rw fields (part-later 32 0 k (fields_of s))

  mode-bare : (f : List ℕ) → mode_of (letter_of (bare 32 f)) ≡ mode_of (letter_of f)
  mode-bare f = rw (asked-bare 83 32 f refl refl, asked-bare 66 32 f refl refl) refl

  same : Same (kept_line s) s
  same =
      record {
        count = kept-count;
        letter = rw field-first (letter-bare 0 (field s 0) refl);
        number = λ k. rw (field-later k) (number-bare 32 (field s (suc k)));
        code = λ k. rw (field-later k) (code-bare 32 (field s (suc k)));
        option = λ k. rw (field-later k) (option-bare 32 (field s (suc k)));
        mode = λ k. rw (field-later k) (mode-bare (field s (suc k)));
        list = λ k room. rw (field-later k) (list-bare room 32 (field s (suc k)));
      }

  pub kept-reads : (edges history completed : ℕ) → line_of edges history completed (kept_line s) ≡ line_of edges history completed s
  kept-reads edges history completed = same_line (kept_line s) s same edges history completed
