-- The words of keys, one key behind the other, with one key more.
-- By induction on the keys. Assumes nothing.
use mathlib.Core.Path.{◌≡◌, refl, sym, ap, ◌∙◌}
use mathlib.Core.List.{List, [], ◌∷◌, ◌++◌, append_assoc, append-nil}
use Prim.Native.Nat.{ℕ, suc, ◌<◌}
use lib.ListN.{length, take}
use lib.Seq.{take-suc}
use Rattle.lists.specs.Sort.{Row}
use Rattle.sorts.specs.Heap.{row0, at}
use Rattle.image.specs.Written.{in_turn}

module _ (f : Row → List ℕ) where
  turn-append : (k l : List Row) → in_turn f (k ++ l) ≡ in_turn f k ++ in_turn f l
  turn-append [] l = refl
  turn-append (x ∷ k) l = rw (turn-append k l) (sym (append_assoc (f x) (in_turn f k) (in_turn f l)))

  pub turn_more : (l : List Row) (p : ℕ) → p < length l → in_turn f (take (suc p) l) ≡ in_turn f (take p l) ++ f (at l p)
  turn_more l p h =
      ap (in_turn f) (take-suc l p row0 h) ∙ turn-append (take p l) (at l p ∷ [])
      ∙ ap (λ (t : List ℕ). in_turn f (take p l) ++ t) (append-nil (f (at l p)))
