-- Query lines, return by return: what the definition gives by what the callees answered.
-- Assumes nothing.
use Rattle.std.specs.Prelude.{Option, Some, None}
use mathlib.Core.Path.{◌≡◌, refl, ap, ◌∙◌}
use mathlib.Core.List.{List, []}
use Prim.Native.Nat.{ℕ}
use lib.ListN.{length}
use Rattle.types.specs.declared.records.OrderingMode.{OrderingMode}
use Rattle.reading.specs.declared.lines.Line.{Line}
use Rattle.reading.specs.declared.lines.Line.TheVariants.{Query}
use Rattle.reading.specs.Numbers.{number_of}
use Rattle.reading.specs.Fields.{fields_of, field, letter_of}
use Rattle.reading.specs.Lists.{list_of, listed, list_words, filled}
use Rattle.reading.specs.Lines.{Read, plain, mode_of, query_line}
use Rattle.reading.proofs.Chain.{is, is-not}
use Rattle.reading.proofs.Segments.{known, unknown, measured}

module _ (s : List ℕ) (hr cr n : ℕ) (ne : n ≡ length (fields_of s)) where
  pub query-count : (n ≡ 5 → ⊥) → plain None ≡ query_line hr cr s
  unfolding query_line
  query-count h = is-not n (length (fields_of s)) 5 _ _ _ ne h refl

  module _ (h : n ≡ 5) (r : Option ℕ) (e : r ≡ number_of (field s 1)) where
    pub query-id : r ≡ None → plain None ≡ query_line hr cr s
    unfolding query_line
    query-id k = is n (length (fields_of s)) 5 _ _ _ ne h (rw (← e, k) refl)

    module _ (id : ℕ) (k : r ≡ Some id) (m : Option OrderingMode) (em : m ≡ mode_of (letter_of (field s 2))) where
      pub query-mode : m ≡ None → plain None ≡ query_line hr cr s
      unfolding query_line
      query-mode km = is n (length (fields_of s)) 5 _ _ _ ne h (rw (← e, k, ← em, km) refl)

      module _ (mode : OrderingMode) (km : m ≡ Some mode) (a : Option ℕ) (ea : a ≡ listed (list_of hr (field s 3))) where
        pub query-history : a ≡ None → plain None ≡ query_line hr cr s
        unfolding query_line
        query-history ka = is n (length (fields_of s)) 5 _ _ _ ne h (rw (← e, k, ← em, km, unknown a (list_of hr (field s 3)) ea ka) refl)

        module _ (p : ℕ) (ka : a ≡ Some p) (b : Option ℕ) (eb : b ≡ listed (list_of cr (field s 4))) where
          pub query-completed : b ≡ None → plain None ≡ query_line hr cr s
          unfolding query_line
          query-completed kb =
              is n (length (fields_of s)) 5 _ _ _ ne h
              (rw (← e, k, ← em, km, known a (list_of hr (field s 3)) p ea ka, unknown b (list_of cr (field s 4)) eb kb) refl)

          pub query-read : (q : ℕ) → b ≡ Some q
              → record { line = Some (Query id mode p q); edges = []; history = list_words (list_of hr (field s 3)); completed = list_words (list_of cr (field s 4)) }
              ≡ query_line hr cr s
          unfolding query_line
          query-read q kb =
              is n (length (fields_of s)) 5 _ _ _ ne h
              (rw (
                ← e,
                k,
                ← em,
                km,
                known a (list_of hr (field s 3)) p ea ka,
                known b (list_of cr (field s 4)) q eb kb,
                measured a (list_of hr (field s 3)) p ea ka,
                measured b (list_of cr (field s 4)) q eb kb,
              ) refl)

pub query-out : (R : Read) (h c : List ℕ) → plain None ≡ R → (None ≡ R.line) × (h ≡ filled h R.history) × (c ≡ filled c R.completed)
query-out R h c e =
    (ap (λ (q : Read). q.line) e, ap (λ (q : Read). filled h q.history) e, ap (λ (q : Read). filled c q.completed) e)

pub query-in : (R : Read) (l : Option Line) (h h' c c' hs cs : List ℕ) → record { line = l; edges = []; history = hs; completed = cs } ≡ R → h' ≡ filled h hs → c' ≡ filled c cs
    → (l ≡ R.line) × (h' ≡ filled h R.history) × (c' ≡ filled c R.completed)
query-in R l h h' c c' hs cs e p q =
    (ap (λ (q : Read). q.line) e, p ∙ ap (λ (q : Read). filled h q.history) e, q ∙ ap (λ (q : Read). filled c q.completed) e)
