-- Pairs written one after the other: those of one list, and those of one row.
--     push-start, push-next, push-end      the loop over a list: after j turns the pairs of its first j items stand behind row k
--     side-room, side_after, side-pushed   those of a row, of which the list is a side
-- By the rows before a row that is written, which stay. Assumes nothing.
use Prim.Native.Nat.{ℕ, suc, ◌+◌, ◌*◌, ◌≤◌, ◌<◌}
use native.Mathlib.Nat.{add-zero}
use native.Mathlib.Numerals.{add-one}
use native.Mathlib.Omega.{arith}
use mathlib.Core.Path.{◌≡◌, refl, sym, ap, ◌∙◌}
use mathlib.Core.List.{List, [], ◌∷◌, ◌++◌, map, map-append, append_assoc, append-nil}
use lib.ListN.{length, get_or, take, set}
use lib.Seq.{take-suc, take-suc-set, take_all}
use Rattle.lists.specs.Sort.{Row}
use Rattle.sorts.specs.Rows.{rows}
use Rattle.sorts.proofs.RowLaws.{le-rows}
use Rattle.types.specs.declared.records.Side.{Side}
use Rattle.types.specs.declared.records.Side.TheVariants.{Parents, Children}
use Rattle.rules.specs.Model.{Segment}
use Rattle.lookups.specs.Sides.{pair_of, side_of}

pub push-start : (k : ℕ) (r : List Row) (id : ℕ) (list : List ℕ) → take (k + 0) r ≡ take k r ++ map (pair_of id) (take 0 list)
push-start k r id list = rw add-zero (sym (append-nil (take k r)))

pub push-next : (r₀ : List Row) (size : ℕ) (pairs pairs' list : List ℕ) (id k j : ℕ) → length pairs ≡ size → 3 * (k + length list) ≤ size → j < length list
    → take (k + j) (rows pairs) ≡ take k r₀ ++ map (pair_of id) (take j list) → rows pairs' ≡ set (rows pairs) (k + j) (id, get_or list j 0, 0)
    → take (k + (j + 1)) (rows pairs') ≡ take k r₀ ++ map (pair_of id) (take (j + 1) list)
push-next r₀ size pairs pairs' list id k j same room below rest e =
    let n : k + (j + 1) ≡ suc (k + j) = omega arith in
    let fits : k + j < length (rows pairs) = le-rows pairs (suc (k + j)) (omega arith) in
    let more : map (pair_of id) (take (j + 1) list) ≡ map (pair_of id) (take j list) ++ ((id, get_or list j 0, 0) ∷ []) =
    rw (add-one, take-suc list j 0 below) (map-append (pair_of id) (take j list) (get_or list j 0 ∷ [])) in
    ap (λ (t : ℕ). take t (rows pairs')) n ∙ ap (take (suc (k + j))) e ∙ take-suc-set (rows pairs) (k + j) (id, get_or list j 0, 0) fits
    ∙ ap (λ (t : List Row). t ++ ((id, get_or list j 0, 0) ∷ [])) rest
    ∙ append_assoc (take k r₀) (map (pair_of id) (take j list)) ((id, get_or list j 0, 0) ∷ [])
    ∙ ap (λ (t : List Row). take k r₀ ++ t) (sym more)

pub push-end : (r r₀ : List Row) (list : List ℕ) (id k j : ℕ) → length list ≤ j → j ≤ length list → take (k + j) r ≡ take k r₀ ++ map (pair_of id) (take j list)
    → take (k + length list) r ≡ take k r₀ ++ map (pair_of id) list
push-end r r₀ list id k j a b e =
    let q : j ≡ length list = omega arith in
    ap (λ (t : ℕ). take (k + t) r) (sym q) ∙ e ∙ ap (λ (t : List ℕ). take k r₀ ++ map (pair_of id) t) (take_all j list a)

-- ---- a row: its side is the list

pub side-parents : (b : Side) (s : Segment) → b ≡ Parents → side_of b s ≡ s.parents
side-parents b s e = rw e refl

pub side-children : (b : Side) (s : Segment) → b ≡ Children → side_of b s ≡ s.children
side-children b s e = rw e refl

module _ (b : Side) (s : Segment) (list : List ℕ) (k : ℕ) (is : side_of b s ≡ list) where
  pub side-room : (size : ℕ) → 3 * (k + length (side_of b s)) ≤ size → 3 * (k + length list) ≤ size
  side-room size h = rw (← is) h

  pub side_after : (r : ℕ) → r ≡ k + length list → r ≡ k + length (side_of b s)
  side_after r e = rw is e

  pub side-pushed : (id r : ℕ) (x₀ x : List Row) → r ≡ k + length list → take (k + length list) x ≡ take k x₀ ++ map (pair_of id) list
      → take r x ≡ take k x₀ ++ map (pair_of id) (side_of b s)
  side-pushed id r x₀ x e f = rw is (ap (λ (t : ℕ). take t x) e ∙ f)

-- what `push_pairs` rests on, and `push_row`
pub ruleset pushing = (push-start, push-next, push-end)

pub ruleset sides = (side-parents, side-children, side-room, side_after, side-pushed)
