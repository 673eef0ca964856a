-- Pairs placed in the scratch: what is placed behind what is placed is placed (`placed-then`), so that the pairs of a list of parents,
-- and of a row, stand one behind the other.
-- Assumes nothing.
use Prim.Native.Nat.{ℕ, suc, ◌+◌, ◌-◌, ◌*◌, ◌≤◌, ◌<◌}
use native.Mathlib.Numerals.{add-one}
use native.Mathlib.Omega.{arith}
use mathlib.Core.Path.{◌≡◌, refl, sym, ap, ◌∙◌}
use mathlib.Core.Bool.{Bool, true, false}
use mathlib.Core.List.{List, [], ◌∷◌, ◌++◌, map, map-append, append_assoc, append-nil}
use borrow.Author.Tests.{eqb-true, ltb-false}
use lib.ListN.{length, get_or, take, drop, set, length-append, length-map, length-drop}
use lib.Seq.{take-suc, take_all, take-suc-set, length-take-le}
use Rattle.lists.specs.Lists.{has}
use Rattle.lists.specs.Sets.{keep}
use Rattle.lists.specs.Sort.{Row}
use Rattle.lists.proofs.SetLaws.{keep-shorter, never}
use Rattle.sorts.specs.Rows.{rows}
use Rattle.sorts.proofs.RowLaws.{le-rows}
use Rattle.rules.specs.Delta.{Pair}
use Rattle.paired.specs.Tables.{known}
use Rattle.paired.specs.declared.pairs.PairKind.{PairKind}
use Rattle.paired.specs.declared.pairs.PairKind.TheVariants.{Split, Merge}
use Rattle.paired.specs.Pairs.{kind_of, wanted, pair_of, row_pairs, row_of, Placed}
use Rattle.paired.proofs.Listed.{keep_append}

-- ---- nothing, one behind the other, one pair

pub placed-none : (w : List ℕ) (k r : ℕ) (ps : List Pair) → r ≡ k → ps ≡ [] → Placed w w k r ps
placed-none w k r ps e f =
    record { count = rw (e, f) (omega arith); size = refl; front = rw (e, f) (sym (append-nil (take k (rows w)))) }

pub placed-then : (w w₁ w₂ : List ℕ) (k m r : ℕ) (ps qs : List Pair) → Placed w w₁ k m ps → Placed w₁ w₂ m r qs → Placed w w₂ k r (ps ++ qs)
placed-then w w₁ w₂ k m r ps qs p q =
    record {
      count = rw (length-append ps qs) (omega (arith, p.count, q.count));
      size = q.size ∙ p.size;
      front =
          q.front ∙ ap (λ (l : List Row). l ++ map row_of qs) p.front ∙ append_assoc (take k (rows w)) (map row_of ps) (map row_of qs)
          ∙ ap (λ (l : List Row). take k (rows w) ++ l) (sym (map-append row_of ps qs));
    }

pub placed_pair : (w w' : List ℕ) (k : ℕ) (p : Pair) → 3 * (k + 1) ≤ length w → length w' ≡ length w
    → rows w' ≡ set (rows w) k (p.0, p.1, 0) → Placed w w' k (k + 1) (p ∷ [])
placed_pair w w' k p h len e =
    let room : suc k ≤ length (rows w) = le-rows w (suc k) (omega arith) in
    record { count = refl; size = len; front = rw (add-one k, e) (take-suc-set (rows w) k (p.0, p.1, 0) room) }

-- ---- one parent

known-append : (u a b : List ℕ) → known (a ++ b) u ≡ known a u ++ known b u
unfolding known
known-append u a b = keep_append (λ (x : ℕ). has x u) a b

pub known-few : (u a : List ℕ) → length (known a u) ≤ length a
unfolding known
known-few u a = keep-shorter (λ (x : ℕ). has x u) a

module _ (u : List ℕ) (parent : ℕ) (b : Bool) (said : b ≡ has parent u) where
  unknown : b ≡ false → known (parent ∷ []) u ≡ []
  unfolding known keep
  unknown told = rw (sym said ∙ told) refl

  is_known : b ≡ true → known (parent ∷ []) u ≡ parent ∷ []
  unfolding known keep
  is_known told = rw (sym said ∙ told) refl

  module _ (w : List ℕ) (k child : ℕ) (kind : PairKind) where
    pub parent_skip : b ≡ false → Placed w w k k (map (pair_of kind child) (known (parent ∷ []) u))
    parent_skip told = placed-none w k k _ refl (ap (map (pair_of kind child)) (unknown told))

    pub parent_put : b ≡ true → (w' : List ℕ) (x : Pair) → x ≡ pair_of kind child parent → Placed w w' k (k + 1) (x ∷ [])
        → Placed w w' k (k + 1) (map (pair_of kind child) (known (parent ∷ []) u))
    parent_put told w' x is p = rw (is_known told) (rw is at p)

-- ---- the parents of a child

known_more : (u l : List ℕ) (j : ℕ) → j < length l → known (take (j + 1) l) u ≡ known (take j l) u ++ known (get_or l j 0 ∷ []) u
known_more u l j h = rw (add-one j, take-suc l j 0 h) (known-append u (take j l) (get_or l j 0 ∷ []))

pub parents-start : (u w parents : List ℕ) (k child : ℕ) (kind : PairKind) → Placed w w k k (map (pair_of kind child) (known (take 0 parents) u))
unfolding known keep
parents-start u w parents k child kind = placed-none w k k _ refl refl

module _ (u parents w₀ w : List ℕ) (k r j child : ℕ) (kind : PairKind) (fits : 3 * (k + length parents) ≤ length w₀)
    (p : Placed w₀ w k r (map (pair_of kind child) (known (take j parents) u))) where
  module _ (below : j < length parents) where
    pub parents-room : 3 * (r + 1) ≤ length w
    parents-room =
        let l : List ℕ = take j parents in
        let few : length l ≤ j = omega (arith, length-take-le j parents (omega arith)) in
        omega (arith, p.count, p.size, known-few u l, length-map (known l u) (pair_of kind child))

    pub parents-next : (w' : List ℕ) (s : ℕ) → Placed w w' r s (map (pair_of kind child) (known (get_or parents j 0 ∷ []) u))
        → Placed w₀ w' k s (map (pair_of kind child) (known (take (j + 1) parents) u))
    parents-next w' s q =
        let all : map (pair_of kind child) (known (take (j + 1) parents) u) ≡ map (pair_of kind child) (known (take j parents) u) ++ map (pair_of kind child) (known (get_or parents j 0 ∷ []) u) =
        ap (map (pair_of kind child)) (known_more u parents j below) ∙ map-append (pair_of kind child) (known (take j parents) u) (known (get_or parents j 0 ∷ []) u) in
        rw all (placed-then w₀ w w' k r s _ _ p q)

-- ---- how many were held

pub count-start : (u list : List ℕ) → 0 ≡ length (known (take 0 list) u)
unfolding known keep
count-start u list = refl

module _ (u list : List ℕ) (held j : ℕ) (e : held ≡ length (known (take j list) u)) where
  module _ (below : j < length list) (b : Bool) (said : b ≡ has (get_or list j 0) u) where
    pub count-hit : b ≡ true → (now : ℕ) → now ≡ held + 1 → now ≡ length (known (take (j + 1) list) u)
    count-hit told now v = rw (known_more u list j below, length-append (known (take j list) u), is_known u (get_or list j 0) b said told) (omega arith)

    pub count-miss : b ≡ false → (now : ℕ) → now ≡ held → now ≡ length (known (take (j + 1) list) u)
    count-miss told now v = rw (known_more u list j below, length-append (known (take j list) u), unknown u (get_or list j 0) b said told) (omega arith)

  pub count-end : length list ≤ j → held ≡ length (known list u)
  count-end h = e ∙ ap (λ (l : List ℕ). length (known l u)) (take_all j list h)

-- ---- a child

-- as many parents as the kind asks for make a pair each
kind-all : (kind : PairKind) (child : ℕ) (l : List ℕ) → wanted kind (length l) ≡ true → kind_of kind child l ≡ map (pair_of kind child) l
kind-all Split child [] e = never e
kind-all Split child (x ∷ []) e = refl
kind-all Split child (x ∷ y ∷ l) e = absurd (omega (arith, eqb-true (length (x ∷ y ∷ l)) 1 e))
kind-all Merge child [] e = never e
kind-all Merge child (x ∷ []) e = never e
kind-all Merge child (x ∷ y ∷ l) e = refl

-- others make none
kind-none : (kind : PairKind) (child : ℕ) (l : List ℕ) → wanted kind (length l) ≡ false → kind_of kind child l ≡ []
kind-none Split child [] e = refl
kind-none Split child (x ∷ []) e = never (sym e)
kind-none Split child (x ∷ y ∷ l) e = refl
kind-none Merge child [] e = refl
kind-none Merge child (x ∷ []) e = refl
kind-none Merge child (x ∷ y ∷ l) e = absurd (omega (arith, ltb-false 1 (length (x ∷ y ∷ l)) e))

module _ (u w parents : List ℕ) (k child : ℕ) (kind : PairKind) (b : Bool) (said : b ≡ has child u) where
  pub child_held : b ≡ true → Placed w w k k (row_pairs kind u child parents)
  unfolding row_pairs
  child_held told = placed-none w k k _ refl (rw (sym said ∙ told) refl)

  module _ (held : ℕ) (c : Bool) (counted : held ≡ length (known parents u)) (asked : c ≡ wanted kind held) where
    is-wanted : wanted kind (length (known parents u)) ≡ c
    is-wanted = sym (asked ∙ ap (wanted kind) counted)

    pub child_unwanted : b ≡ false → c ≡ false → Placed w w k k (row_pairs kind u child parents)
    unfolding row_pairs
    child_unwanted told n = placed-none w k k _ refl (rw (sym said ∙ told) (kind-none kind child (known parents u) (is-wanted ∙ n)))

    pub child_wanted : b ≡ false → c ≡ true → (w' : List ℕ) (r : ℕ) → Placed w w' k r (map (pair_of kind child) (known parents u))
        → Placed w w' k r (row_pairs kind u child parents)
    unfolding row_pairs
    child_wanted told y w' r p = rw (sym said ∙ told, kind-all kind child (known parents u) (is-wanted ∙ y)) p
