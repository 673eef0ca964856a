-- Laws of `specs/Table.antt`, for the crate and its callers.
--     length_ids, ids_at    the ids as words of the table
--     is_at, is-nothing     what a search has to show
--     at-is, nothing_is     what a caller learns
--     hit, has-hit          a list has what a search finds
--     unsearched, searched  a search that is made only where a test fails
--     row-found, row-missing     the same of the words of a table: what a caller of `find_row` cites
--     word_in, field_in     a word of a row is in the table
--     asc-false, asc-is     the test of the order, and what it tells
use mathlib.Core.Bool.{Bool, true, false, cond, ◌||◌, and-false}
use mathlib.Core.Path.{◌≡◌, refl, sym, ap, subst, ◌∙◌}
use mathlib.Core.List.{List, [], ◌∷◌}
use mathlib.Core.Logic.{⊎_elim}
use Prim.Native.Nat.{ℕ, zero, suc, ◌+◌, ◌-◌, ◌*◌, ◌<◌, ◌≤◌, zero-le, suc-le-suc}
use native.Mathlib.Omega.{arith}
use native.Mathlib.Nat.{add-mul, one-mul, mul-le-mul_right, suc-mul, zero-mul, le_of_suc-le-suc, not-suc-le-zero, add_comm, add-suc, add-zero}
use lib.ListN.{length, get_or, drop}
use lib.Seq.{get_or-drop}
use lib.Dec.{T, eqb, ltb}
use borrow.Author.Tests.{eq-eqb, ne_eqb, le-ltb}
use Rattle.lists.specs.Lists.{has}
use Rattle.lists.proofs.Cases.{lt-or-le, eq-or-ne}
use Rattle.words.specs.Table.{ids, where_from, where_is, Ascends, ascending, Found, At, Nothing}

pub length_ids : (t : List ℕ) (w n : ℕ) → length (ids t w n) ≡ n
length_ids t w zero = refl
length_ids t w (suc n) = ap suc (length_ids (drop w t) w n)

pub ids_at : (t : List ℕ) (w n r : ℕ) → r < n → get_or (ids t w n) r 0 ≡ get_or t (r * w) 0
ids_at t w zero r h = absurd (not-suc-le-zero h)
ids_at t w (suc n) zero h = rw zero-mul refl
ids_at t w (suc n) (suc r) h = ids_at (drop w t) w n r (le_of_suc-le-suc h) ∙ get_or-drop w t (r * w) 0 ∙ ap (λ (k : ℕ). get_or t k 0) (add_comm w (r * w) ∙ sym (suc-mul r w))

-- the id of row m is in the table
pub word_in : (m n w len : ℕ) → m < n → 0 < w → n * w ≤ len → m * w < len
word_in m n w len h p q = let z : (m + 1) * w ≤ n * w = mul-le-mul_right w (omega arith) in omega (arith, z, add-mul m 1 w, one-mul w)

-- word j of row m is in the table
pub field_in : (m n w j len : ℕ) → m < n → j < w → n * w ≤ len → m * w + j < len
field_in m n w j len h p q = let z : (m + 1) * w ≤ n * w = mul-le-mul_right w (omega arith) in omega (arith, z, add-mul m 1 w, one-mul w)

from_at : (l : List ℕ) (x k r : ℕ) → r < length l → get_or l r 0 ≡ x → ((j : ℕ) → j < r → get_or l j 0 ≡ x → ⊥) → where_from k l x ≡ At (k + r)
from_at [] x k r h e n = absurd (not-suc-le-zero h)
from_at (y ∷ l) x k zero h e n = rw (eq-eqb y x e, add-zero) refl
from_at (y ∷ l) x k (suc r) h e n = rw (ne_eqb y x (n 0 (suc-le-suc zero-le)), add-suc) (from_at l x (suc k) r (le_of_suc-le-suc h) e (λ j q. n (suc j) (suc-le-suc q)) ∙ ap At (omega arith))

pub is_at : (l : List ℕ) (x r : ℕ) → r < length l → get_or l r 0 ≡ x → ((j : ℕ) → j < r → get_or l j 0 ≡ x → ⊥) → where_is l x ≡ At r
is_at l x r h e n = from_at l x 0 r h e n ∙ ap At (omega arith)

from_nothing : (l : List ℕ) (x k : ℕ) → ((j : ℕ) → j < length l → get_or l j 0 ≡ x → ⊥) → where_from k l x ≡ Nothing
from_nothing [] x k n = refl
from_nothing (y ∷ l) x k n = rw (ne_eqb y x (n 0 (suc-le-suc zero-le))) (from_nothing l x (suc k) (λ j q. n (suc j) (suc-le-suc q)))

pub is-nothing : (l : List ℕ) (x : ℕ) → ((j : ℕ) → j < length l → get_or l j 0 ≡ x → ⊥) → where_is l x ≡ Nothing
is-nothing l x n = from_nothing l x 0 n

-- ---- a caller of a search learns

from-at-is : (l : List ℕ) (x k r : ℕ) → where_from k l x ≡ At r → (k ≤ r) × (r < k + length l) × (get_or l (r - k) 0 ≡ x)
from-at-is [] x k r e = let z : ◌≡◌ {A = ℕ} 0 1 = cc in absurd (omega arith)
from-at-is (y ∷ l) x k r e =
    ⊎_elim
    (λ (h : y ≡ x).
    let f : At k ≡ At r = sym (rw (eq-eqb y x h) refl) ∙ e in
    let g : k ≡ r = cc in
    let d : r - k ≡ 0 = omega arith in
    (omega arith, omega arith, rw d h))
    (λ (h : y ≡ x → ⊥).
    let f : where_from (suc k) l x ≡ At r = sym (rw (ne_eqb y x h) refl) ∙ e in
    let i = from-at-is l x (suc k) r f in
    let d : r - k ≡ suc (r - suc k) = omega (arith, i.0) in
    (omega (arith, i.0), omega (arith, i.1), rw d i.2))
    (eq-or-ne y x)

pub at-is : (l : List ℕ) (x r : ℕ) → where_is l x ≡ At r → (r < length l) × (get_or l r 0 ≡ x)
at-is l x r e = let i = from-at-is l x 0 r e in let d : r - 0 ≡ r = omega arith in (omega (arith, i.1), rw d at i.2)

-- past an element that is not x
next-nothing : (y : ℕ) (l : List ℕ) (x k : ℕ) → where_from k (y ∷ l) x ≡ Nothing → (y ≡ x → ⊥) × (where_from (suc k) l x ≡ Nothing)
next-nothing y l x k e =
    ⊎_elim
    (λ (p : y ≡ x). let f : At k ≡ Nothing = sym (rw (eq-eqb y x p) refl) ∙ e in let z : ◌≡◌ {A = ℕ} 0 1 = cc in absurd (omega arith))
    (λ (p : y ≡ x → ⊥). (p, sym (rw (ne_eqb y x p) refl) ∙ e))
    (eq-or-ne y x)

from-nothing-is : (l : List ℕ) (x k : ℕ) → where_from k l x ≡ Nothing → (j : ℕ) → j < length l → get_or l j 0 ≡ x → ⊥
from-nothing-is [] x k e j h g = not-suc-le-zero h
from-nothing-is (y ∷ l) x k e zero h g = (next-nothing y l x k e).0 g
from-nothing-is (y ∷ l) x k e (suc j) h g = from-nothing-is l x (suc k) (next-nothing y l x k e).1 j (le_of_suc-le-suc h) g

pub nothing_is : (l : List ℕ) (x : ℕ) → where_is l x ≡ Nothing → (j : ℕ) → j < length l → get_or l j 0 ≡ x → ⊥
nothing_is l x e = from-nothing-is l x 0 e

-- ---- whether a search found something

abbrev pub hit : Found → Bool
hit (At r) = true
hit Nothing = false

has-from : (k : ℕ) (l : List ℕ) (x : ℕ) → has x l ≡ hit (where_from k l x)
has-from k [] x = refl
has-from k (y ∷ l) x = go (has-from (suc k) l x) (eqb y x)
  where
    go : has x l ≡ hit (where_from (suc k) l x) → (t : Bool) → (t || has x l) ≡ hit (cond t (At k) (where_from (suc k) l x))
    go ih true = refl
    go ih false = ih

pub has-hit : (l : List ℕ) (x : ℕ) → has x l ≡ hit (where_is l x)
has-hit l x = has-from 0 l x

-- what a callee answered is the test t, and a branch has told it
pub unsearched : (x t : Bool) (f : Found) → x ≡ t → x ≡ true → Nothing ≡ cond t Nothing f
unsearched x t f said told = rw (← said, told)

pub searched : (x t : Bool) (v f : Found) → x ≡ t → x ≡ false → v ≡ f → v ≡ cond t Nothing f
searched x t v f said told e = rw (← said, told, e)

-- ---- the test of the order

pub asc-false : (l : List ℕ) (p : ℕ) → suc p < length l → get_or l (suc p) 0 ≤ get_or l p 0 → ascending l ≡ false
asc-false [] p q h = absurd (not-suc-le-zero q)
asc-false (x ∷ []) p q h = absurd (not-suc-le-zero (le_of_suc-le-suc q))
asc-false (x ∷ y ∷ l) zero q h = rw (le-ltb x y h) refl
asc-false (x ∷ y ∷ l) (suc p) q h = rw (asc-false (y ∷ l) p (le_of_suc-le-suc q) h) (and-false (ltb x y))

asc-next : (l : List ℕ) → ascending l ≡ true → (p : ℕ) → suc p < length l → get_or l p 0 < get_or l (suc p) 0
asc-next l e p q =
    ⊎_elim (λ h. h) (λ (h : get_or l (suc p) 0 ≤ get_or l p 0). absurd (subst T (sym e ∙ asc-false l p q h) tt)) (lt-or-le (get_or l p 0) (get_or l (suc p) 0))

asc-far : (l : List ℕ) → ascending l ≡ true → (d p : ℕ) → p + suc d < length l → get_or l p 0 < get_or l (p + suc d) 0
asc-far l e zero p q = let z : p + 1 ≡ suc p = omega arith in rw z (asc-next l e p (omega arith))
asc-far l e (suc d) p q =
    let z : p + suc (suc d) ≡ suc (p + suc d) = omega arith in
    rw z (omega (arith, asc-far l e d p (omega arith), asc-next l e (p + suc d) (omega arith)))

pub asc-is : (l : List ℕ) → ascending l ≡ true → Ascends l
asc-is l e p q h k = let z : p + suc (q - suc p) ≡ q = omega arith in rw z at (asc-far l e (q - suc p) p (omega arith))

-- ---- a search in a table: what its caller learns

pub row-found : (t : List ℕ) (w n x r : ℕ) → where_is (ids t w n) x ≡ At r → (r < n) × (get_or t (r * w) 0 ≡ x)
row-found t w n x r e =
    let a = at-is (ids t w n) x r e in
    let h : r < n = omega (arith, a.0, length_ids t w n) in
    (h, sym (ids_at t w n r h) ∙ a.1)

pub row-missing : (t : List ℕ) (w n x : ℕ) → where_is (ids t w n) x ≡ Nothing → (r : ℕ) → r < n → get_or t (r * w) 0 ≡ x → ⊥
row-missing t w n x e r h q = nothing_is (ids t w n) x e r (rw length_ids h) (ids_at t w n r h ∙ q)
