-- The call: 1, 2, and else the query on the tables cut to size.
--     asked-bad, asked-short, asked-good     what the rule comes to
--     call-refused, call-answered            answer, lists and work area at exit
-- Assumes nothing.
use Prim.Native.Nat.{ℕ}
use mathlib.Core.Path.{◌≡◌, refl, ap, ◌∙◌}
use mathlib.Core.Bool.{Bool, true, false}
use mathlib.Core.List.{List}
use lib.ListN.{length, replicate}
use Rattle.answers.specs.declared.Ordering.{Ordering}
use Rattle.answers.specs.declared.Refusal.{Refusal}
use Rattle.answers.specs.declared.Refusal.TheVariants.{BadTable, NoRoom}
use Rattle.types.specs.declared.lent.History.{History}
use Rattle.types.specs.declared.records.OrderingMode.{OrderingMode}
use Rattle.rules.specs.Shape.{bad_held}
use Rattle.rules.specs.Room.{no_room_to_order}
use Rattle.rules.specs.Ordering.{Answer, Lent, Asked, ordering, query, query_rule, refused_at, answered, ordering_of, first_after, second_after, order_work_after}
use Rattle.shape.proofs.Enough.{enough-to-order}
use Rattle.held.specs.declared.HeldTables.{HeldTables}
use Rattle.held.specs.declared.Held.{Held}
use Rattle.held.specs.Front.{segments_of, IsFront, IsBad}
use Rattle.held.proofs.Fronts.{same_segments, same_size}
use Rattle.query.specs.Told.{Replied, Room}
use Rattle.ordering.specs.Asked.{asked}

module _ (t : HeldTables) (mode : OrderingMode) (id : ℕ) (history : History) (lent : Lent) where
  pub asked-bad : (r : Refusal) → IsBad t r → asked t mode id history lent ≡ refused_at BadTable
  unfolding query query_rule
  asked-bad r b = rw b.bad refl

  module _ (held : Held) (f : IsFront t held) (x : Bool) (said : x ≡ no_room_to_order lent.work (length lent.first) (length lent.second) held.count (length held.edges.now)) where
    of-tables : x ≡ no_room_to_order lent.work (length lent.first) (length lent.second) t.count t.edge_count
    of-tables = rw (f.count, same_size t held f) at said

    pub asked-short : x ≡ true → asked t mode id history lent ≡ refused_at NoRoom
    unfolding query query_rule
    asked-short none = rw (f.good, ← of-tables, none) refl

    module _ (some : x ≡ false) where
      pub asked-good : asked t mode id history lent ≡ answered (ordering (segments_of held) mode id history.owned.now history.completed.now)
      unfolding query query_rule
      asked-good = rw (f.good, ← of-tables, some, same_segments t held f) refl

      pub asked-room : Room lent.work (length lent.first) (length lent.second) held.count (length held.edges.now)
      asked-room =
          let o = enough-to-order lent.work (length lent.first) (length lent.second) held.count (length held.edges.now) x said some in
          record { for-work = o.for-work; for-first = o.for-first; for-second = o.for-second }

-- ---- at exit

-- answer, both lists and the work area are what the rule says
abbrev Ends : Asked → Ordering → List ℕ → List ℕ → List ℕ → List ℕ → List ℕ → List ℕ → Type 0
Ends q o f f' s s' w w' = (o ≡ ordering_of q) × ((f' ≡ first_after q f) × ((s' ≡ second_after q s) × (w' ≡ order_work_after q w)))

pub call-refused : (q : Asked) (r : Refusal) (o : Ordering) (f s w : List ℕ) → q ≡ refused_at r → o ≡ ordering_of (refused_at r) → Ends q o f f s s w w
call-refused q r o f s w e is = rw e (is, (refl, (refl, refl)))

pub call-answered : (q : Asked) (a : Answer) (o : Ordering) (f f' s s' w w₁ w' : List ℕ) → q ≡ answered a → Replied a o f f' s s' → length w₁ ≡ length w → w' ≡ replicate (length w₁) 0
    → Ends q o f f' s s' w w'
call-answered q a o f f' s s' w w₁ w' e r l z =
    rw e (r.answer-is, (r.first-is, (r.second_is, z ∙ ap (λ (k : ℕ). replicate k 0) l)))
