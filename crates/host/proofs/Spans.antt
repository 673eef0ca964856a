-- Start and length of a segment's parents, and of its children, from what the search for them answered.
-- Assumes nothing.
use Prim.Native.Nat.{ℕ, ◌+◌, ◌-◌}
use native.Mathlib.Omega.{arith}
use mathlib.Core.Path.{◌≡◌, refl, ap, ◌∙◌}
use mathlib.Core.List.{List}
use lib.ListN.{take, drop}
use Rattle.std.specs.Prelude.{Ok, Err}
use Rattle.words.specs.Part.{part}
use Rattle.answers.specs.declared.Refusal.{Refusal}
use Rattle.answers.specs.declared.RefusalWords.{RefusalWords}
use Rattle.answers.specs.Answer.{Judged, Accepted, Refused, words_of}
use Rattle.types.specs.declared.records.Side.{Side}
use Rattle.rules.specs.Tables.{stretch}
use Rattle.held.specs.declared.HeldTables.{HeldTables}
use Rattle.held.specs.declared.Span.{Span}
use Rattle.ordering.specs.Rows.{known, known_row, stretch_of, span_in, span_after, span_rule}
use Rattle.ordering.proofs.Stretches.{told, row-refused, edges-at, edges-nowhere}
use Rattle.crossing.specs.Told.{no_refusal}
use Rattle.host.specs.declared.stretch.Stretch.{Stretch}
use Rattle.host.specs.Span.{span}

-- n words from `from` on, as the stretch up to `from + n`
part-is : (l : List ℕ) (from n : ℕ) → part l from n ≡ stretch l from (from + n)
part-is l from n = let e : n ≡ from + n - from = omega arith in ap (λ (k : ℕ). take k (drop from l)) e

module _ (t : HeldTables) (side : Side) (id : ℕ) where
  abbrev found : Span
  found = span_in side t.rows.now (known_row t.rows.now t.edges.now t.count t.edge_count id)

  abbrev wanted : Stretch
  wanted = span side t.rows.now t.edges.now t.count t.edge_count id

  pub span-told : (s : Span) → Ok s ≡ span_rule side t id → record { refusal = no_refusal; start = s.start; length = s.length } ≡ wanted
  span-told s e = go (known t id) refl e
    where
      go : (j : Judged) → known t id ≡ j → Ok s ≡ span_after j found → record { refusal = no_refusal; start = s.start; length = s.length } ≡ wanted
      go Accepted is same = rw (is, ap told same) refl
      go (Refused r) is same = let z : ◌≡◌ {A = ℕ} 0 1 = cc in absurd (omega arith)

  pub refusal-told : (r : Refusal) (v : RefusalWords) → Err r ≡ span_rule side t id → v ≡ words_of r → record { refusal = v; start = 0; length = 0 } ≡ wanted
  refusal-told r v e said = go (known t id) refl e
    where
      go : (j : Judged) → known t id ≡ j → Err r ≡ span_after j found → record { refusal = v; start = 0; length = 0 } ≡ wanted
      go Accepted is same = let z : ◌≡◌ {A = ℕ} 0 1 = cc in absurd (omega arith)
      go (Refused q) is same = let w : words_of r ≡ words_of q = cc in rw (is, row-refused t id q is, said, w) refl

  pub span-stands : (s : Span) → Ok s ≡ span_rule side t id → part t.edges.now s.start s.length ≡ stretch_of side t id
  span-stands s e = part-is t.edges.now s.start s.length ∙ edges-at t id side s e

  pub nothing-stands : (r : Refusal) → Err r ≡ span_rule side t id → part t.edges.now 0 0 ≡ stretch_of side t id
  nothing-stands r e = edges-nowhere t id side r e
