-- The query on good tables: what the answer by its lists is, is what the rule says.
--     asked-row, asked-nothing     a segment with a row, and one without
-- Assumes nothing.
use Prim.Native.Nat.{ℕ, ◌*◌, ◌<◌}
use mathlib.Core.Path.{◌≡◌, refl, sym, ap, subst, ◌∙◌}
use mathlib.Core.Bool.{true}
use mathlib.Core.List.{List, [], ◌∷◌}
use lib.ListN.{get_or}
use Rattle.lists.specs.Lists.{has}
use Rattle.words.specs.Part.{part}
use Rattle.words.specs.Table.{ids, where_is, Ascends, Found, At, Nothing}
use Rattle.words.proofs.TableLaws.{row-found, hit}
use Rattle.answers.specs.declared.Ordering.{Ordering}
use Rattle.answers.specs.Verdict.{Verdict}
use Rattle.types.specs.declared.records.OrderingMode.{OrderingMode}
use Rattle.types.specs.declared.records.OrderingMode.TheVariants.{Strict, BrokerManaged}
use Rattle.rules.specs.Model.{Segment, ids_of}
use Rattle.rules.specs.Tables.{held_width, held_segments}
use Rattle.rules.specs.Ancestors.{ancestors, references_read}
use Rattle.rules.specs.Ordering.{ordering, answered, ordering_of, read_of, unknown}
use Rattle.rules.proofs.Ancestry.{ancestors-ascending}
use Rattle.tabled.specs.Image.{Tabled}
use Rattle.walk.proofs.ByParents.{row_at}
use Rattle.walk.proofs.Merging.{places}
use Rattle.walk.specs.declared.Ancestry.{Ancestry}
use Rattle.walk.specs.Kept.{Listed}
use Rattle.query.specs.Told.{Told, row_answer, pruned_in, remote_in, incomplete_in, Replied}
use Rattle.tabled.proofs.HasRow.{has-row}
use Rattle.query.proofs.Pruned.{pruned-are, remote-are, incomplete-are}

-- the count of an answer of a segment with a row
read_is : (mode : OrderingMode) (id : ℕ) (P R I : List ℕ) (n : ℕ) → read_of (row_answer mode id P R I n) ≡ n
read_is mode id (x ∷ P) R I n = refl
read_is Strict id [] (x ∷ R) I n = refl
read_is Strict id [] [] (x ∷ I) n = refl
read_is Strict id [] [] [] n = refl
read_is BrokerManaged id [] R (x ∷ I) n = refl
read_is BrokerManaged id [] [] [] n = refl
read_is BrokerManaged id [] (y ∷ R) [] n = refl

module _ (rows edges : List ℕ) (h : ℕ) (t : Tabled rows edges h) (mode : OrderingMode) (id : ℕ) (history completed : List ℕ) where
  abbrev S : List Segment
  S = held_segments rows edges h

  row-answer : has id (ids_of S) ≡ true
      → row_answer mode id (pruned_in rows h id (ancestors S id)) (remote_in history completed (ancestors S id)) (incomplete_in history completed (ancestors S id)) (references_read S id) ≡ ordering S mode id history completed
  unfolding ordering
  row-answer e = rw (e, pruned-are rows edges h t id, remote-are S id history completed, incomplete-are S id history completed) refl

  module _ (f : Found) (is : f ≡ where_is (ids rows held_width h) id) where
    -- the row of the segment is what the walk starts from
    pub asked-start : (r : ℕ) → f ≡ At r → (r < h) × (get_or rows (r * held_width) 0 ≡ id)
    asked-start r e = row-found rows held_width h id r (sym is ∙ e)

    pub asked-nothing : (o : Ordering) (first second : List ℕ) → f ≡ Nothing → o ≡ ordering_of (answered (unknown id)) → Replied (ordering S mode id history completed) o first first second second
    unfolding ordering
    asked-nothing o first second e q = rw (has-row rows edges h id ∙ ap hit (sym is ∙ e)) (record { answer-is = q; first-is = refl; second_is = refl })

  module _ (r b : ℕ) (w : List ℕ) (all : Ancestry) (own : get_or rows (r * held_width) 0 ≡ id) (l : Listed rows edges h r b w all) where
    listed : part w b all.count ≡ ancestors S id
    listed = l.are ∙ ap (ancestors S) own

    pub listed-up : Ascends (part w b all.count)
    listed-up = rw listed (places (ancestors S id) (ancestors-ascending S id))

    known : r < h → has id (ids_of S) ≡ true
    known below = has-row rows edges h id ∙ ap hit (ap (where_is (ids rows held_width h)) (sym own) ∙ row_at rows edges h t.up r below)

    pub asked-row : r < h → (told : Verdict) (first first' second second' : List ℕ)
        → Told (row_answer mode id (pruned_in rows h id (part w b all.count)) (remote_in history completed (part w b all.count)) (incomplete_in history completed (part w b all.count))) told first first' second second'
        → Replied (ordering S mode id history completed) (record { eligibility = told; read = all.read }) first first' second second'
    asked-row below told first first' second second' a = go (subst Ended listed a)
      where
        Ended : List ℕ → Type 0
        Ended A = Told (row_answer mode id (pruned_in rows h id A) (remote_in history completed A) (incomplete_in history completed A)) told first first' second second'

        read : all.read ≡ references_read S id
        read = l.read ∙ ap (references_read S) own

        go : Ended (ancestors S id) → Replied (ordering S mode id history completed) (record { eligibility = told; read = all.read }) first first' second second'
        go e =
            rw (← row-answer (known below))
            (record {
              answer-is = λ j. record {
                eligibility = e.told_is (references_read S id) j;
                read = (read ∙ sym (read_is mode id (pruned_in rows h id (ancestors S id)) (remote_in history completed (ancestors S id)) (incomplete_in history completed (ancestors S id)) (references_read S id))) j;
              };
              first-is = e.first-is (references_read S id);
              second_is = e.second_is (references_read S id);
            })
