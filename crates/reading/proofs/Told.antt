-- A line by its letter: a call for one kind of line owes what is owed of any line, since the areas that it does not have stay.
-- Assumes nothing.
use Rattle.std.specs.Prelude.{Option, Some, None}
use mathlib.Core.Path.{◌≡◌, refl, sym, ap, ◌∙◌}
use mathlib.Core.Bool.{Bool, true, false, cond}
use mathlib.Core.List.{List, [], ◌++◌}
use Prim.Native.Nat.{ℕ, ◌-◌}
use borrow.Author.Tests.{eq-eqb, ne_eqb}
use lib.Dec.{eqb}
use lib.ListN.{length}
use Rattle.types.specs.declared.records.OrderingMode.{OrderingMode}
use Rattle.types.specs.declared.records.SegmentInfo.{SegmentInfo}
use Rattle.reading.specs.declared.lines.Line.{Line}
use Rattle.reading.specs.declared.lines.Line.TheVariants.{Segment, Query}
use Rattle.reading.specs.Numbers.{number_of}
use Rattle.reading.specs.Fields.{fields_of, field, letter_of}
use Rattle.reading.specs.Lists.{list_of, filled}
use Rattle.reading.specs.Lines.{Read, Told, plain, row_of, mode_of, plain_line, segment_line, query_line, line_of, given}

-- ---- an s line has no ids of a query

NoIds : Read → Type 0
NoIds R = (R.history ≡ []) × (R.completed ≡ [])

segment-no-ids : (room : ℕ) (s : List ℕ) → NoIds (segment_line room s)
unfolding segment_line NoIds
segment-no-ids room s = counted (eqb (length (fields_of s)) 10)
  where
    rowed : (t : Option SegmentInfo) (es : List ℕ) → NoIds (given t (plain None) λ info. record { line = Some (Segment info); edges = es; history = []; completed = [] })
    rowed (Some info) es = (refl, refl)
    rowed None es = (refl, refl)

    children : (ps : List ℕ) (o : Option (List ℕ))
        → NoIds (given o (plain None) λ cs. given (row_of s (length ps) (length cs)) (plain None) λ info. record { line = Some (Segment info); edges = ps ++ cs; history = []; completed = [] })
    children ps None = (refl, refl)
    children ps (Some cs) = rowed (row_of s (length ps) (length cs)) (ps ++ cs)

    parents : (o : Option (List ℕ))
        → NoIds (given o (plain None) λ ps. given (list_of (room - length ps) (field s 9)) (plain None) λ cs. given (row_of s (length ps) (length cs)) (plain None) λ info. record { line = Some (Segment info); edges = ps ++ cs; history = []; completed = [] })
    parents None = (refl, refl)
    parents (Some ps) = children ps (list_of (room - length ps) (field s 9))

    counted : (t : Bool)
        → NoIds (cond t (given (list_of room (field s 8)) (plain None) λ ps. given (list_of (room - length ps) (field s 9)) (plain None) λ cs. given (row_of s (length ps) (length cs)) (plain None) λ info. record { line = Some (Segment info); edges = ps ++ cs; history = []; completed = [] }) (plain None))
    counted true = parents (list_of room (field s 8))
    counted false = (refl, refl)

-- ---- an O line has no edges

query-no-edges : (hr cr : ℕ) (s : List ℕ) → (query_line hr cr s).edges ≡ []
unfolding query_line
query-no-edges hr cr s = counted (eqb (length (fields_of s)) 5)
  where
    done : (id : ℕ) (m : OrderingMode) (hs : List ℕ) (o : Option (List ℕ))
        → (given o (plain None) λ cs. record { line = Some (Query id m (length hs) (length cs)); edges = []; history = hs; completed = cs }).edges ≡ []
    done id m hs None = refl
    done id m hs (Some cs) = refl

    owned : (id : ℕ) (m : OrderingMode) (o : Option (List ℕ))
        → (given o (plain None) λ hs. given (list_of cr (field s 4)) (plain None) λ cs. record { line = Some (Query id m (length hs) (length cs)); edges = []; history = hs; completed = cs }).edges ≡ []
    owned id m None = refl
    owned id m (Some hs) = done id m hs (list_of cr (field s 4))

    moded : (id : ℕ) (m : Option OrderingMode)
        → (given m (plain None) λ m. given (list_of hr (field s 3)) (plain None) λ hs. given (list_of cr (field s 4)) (plain None) λ cs. record { line = Some (Query id m (length hs) (length cs)); edges = []; history = hs; completed = cs }).edges
        ≡ []
    moded id None = refl
    moded id (Some m) = owned id m (list_of hr (field s 3))

    named : (n : Option ℕ)
        → (given n (plain None) λ id. given (mode_of (letter_of (field s 2))) (plain None) λ m. given (list_of hr (field s 3)) (plain None) λ hs. given (list_of cr (field s 4)) (plain None) λ cs. record { line = Some (Query id m (length hs) (length cs)); edges = []; history = hs; completed = cs }).edges
        ≡ []
    named None = refl
    named (Some id) = moded id (mode_of (letter_of (field s 2)))

    counted : (t : Bool)
        → (cond t (given (number_of (field s 1)) (plain None) λ id. given (mode_of (letter_of (field s 2))) (plain None) λ m. given (list_of hr (field s 3)) (plain None) λ hs. given (list_of cr (field s 4)) (plain None) λ cs. record { line = Some (Query id m (length hs) (length cs)); edges = []; history = hs; completed = cs }) (plain None)).edges
        ≡ []
    counted true = named (number_of (field s 1))
    counted false = refl

-- ---- what is owed

module _ (s E H C : List ℕ) (n : ℕ) (e : n ≡ letter_of (field s 0)) where
  owes : (R : Read) → line_of (length E) (length H) (length C) s ≡ R → (r : Option Line) (E' H' C' : List ℕ)
      → r ≡ R.line → E' ≡ filled E R.edges → H' ≡ filled H R.history → C' ≡ filled C R.completed → Told s E H C r E' H' C'
  owes R q r E' H' C' a b c d =
      record {
        told = a ∙ ap (λ (x : Read). x.line) (sym q);
        edged = b ∙ ap (λ (x : Read). filled E x.edges) (sym q);
        historied = c ∙ ap (λ (x : Read). filled H x.history) (sym q);
        completes = d ∙ ap (λ (x : Read). filled C x.completed) (sym q);
      }

  pub told-segment : n ≡ 115 → (r : Option Line) (E' : List ℕ) → r ≡ (segment_line (length E) s).line
      → E' ≡ filled E (segment_line (length E) s).edges → Told s E H C r E' H C
  unfolding line_of NoIds
  told-segment k r E' p q =
      owes (segment_line (length E) s) (rw (eq-eqb (letter_of (field s 0)) 115 (sym e ∙ k)) refl) r E' H C p q
      (ap (filled H) (sym (segment-no-ids (length E) s).0)) (ap (filled C) (sym (segment-no-ids (length E) s).1))

  pub told-query : n ≡ 79 → (r : Option Line) (H' C' : List ℕ) → r ≡ (query_line (length H) (length C) s).line
      → H' ≡ filled H (query_line (length H) (length C) s).history → C' ≡ filled C (query_line (length H) (length C) s).completed → Told s E H C r E H' C'
  unfolding line_of
  told-query l r H' C' p q u =
      let m : letter_of (field s 0) ≡ 79 = sym e ∙ l in
      owes (query_line (length H) (length C) s) (rw m refl) r E H' C' p (ap (filled E) (sym (query-no-edges (length H) (length C) s))) q u

  pub told-plain : (n ≡ 115 → ⊥) → (n ≡ 79 → ⊥) → (r : Option Line) → r ≡ plain_line n s → Told s E H C r E H C
  unfolding line_of
  told-plain k l r p =
      owes (plain (plain_line (letter_of (field s 0)) s))
      (rw (ne_eqb (letter_of (field s 0)) 115 (λ z. k (e ∙ z)), ne_eqb (letter_of (field s 0)) 79 (λ z. l (e ∙ z))) refl) r E H C
      (p ∙ ap (λ (m : ℕ). plain_line m s) e) refl refl refl
