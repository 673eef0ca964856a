-- Lists of numbers in which none stands twice:
--     single-snoc, single-front, single-map     one more, the front of one, and its image
--     asc-snoc                                  one more of an ascending list
--     total-all, total_kept, total-map          sums over one, as sums over the ascending list of the same numbers
--     no_more                                   there are at most n numbers below n
-- Assumes nothing.
use Prim.Native.Nat.{ℕ, zero, suc, ◌+◌, ◌<◌, ◌≤◌}
use native.Mathlib.Omega.{arith}
use native.Mathlib.Decide.{ℕ_discrete}
use mathlib.Core.Path.{◌≡◌, refl, sym, ap, ◌∙◌}
use mathlib.Core.Bool.{Bool, true, false, cond, ◌||◌}
use mathlib.Core.Logic.{◌⊎◌, inl, inr, ⊎_elim}
use mathlib.Core.List.{List, [], ◌∷◌, ◌++◌, map}
use borrow.Author.Tests.{eq-eqb, eqb-true}
use lib.Dec.{eqb, ltb}
use lib.ListN.{length, take}
use Rattle.lists.specs.Lists.{has, ◌∈◌, ◌∉◌}
use Rattle.lists.specs.Sets.{Ascending, add, add_all, keep, total}
use Rattle.lists.proofs.SortLaws.{true-or-false}
use Rattle.lists.proofs.SetLaws.{never, here, here_eq, there, in-cons, in_all, has-append, length-add, asc-all, fits, in_take}
use Rattle.walk.specs.Met.{Single}

-- ---- membership

pub both : {X : Type 0} (x : ℕ) (l : List ℕ) → x ∈ l → x ∉ l → X
both x l i o = never (sym o ∙ i)

-- what is not in a list by a proof that it can't be
pub out : (x : ℕ) (l : List ℕ) → (x ∈ l → ⊥) → x ∉ l
out x l h = ⊎_elim (λ (i : x ∈ l). absurd (h i)) (λ (o : x ∉ l). o) (true-or-false (has x l))

pub in-snoc : (x y : ℕ) (l : List ℕ) → x ∈ (l ++ (y ∷ [])) → (x ∈ l) ⊎ (x ≡ y)
in-snoc x y l h = go (has x l) refl (sym (has-append x l (y ∷ [])) ∙ h)
  where
    go : (t : Bool) → has x l ≡ t → (t || (eqb y x || false)) ≡ true → (x ∈ l) ⊎ (x ≡ y)
    go true e k = inl e
    go false e k = inr (last (eqb y x) refl k)
      where
        last : (t : Bool) → eqb y x ≡ t → (t || false) ≡ true → x ≡ y
        last true f k = sym (eqb-true y x f)
        last false f k = never k

pub snoc_old : (x y : ℕ) (l : List ℕ) → x ∈ l → x ∈ (l ++ (y ∷ []))
snoc_old x y l h = has-append x l (y ∷ []) ∙ rw h refl

pub snoc_new : (y : ℕ) (l : List ℕ) → y ∈ (l ++ (y ∷ []))
snoc_new y l = has-append y l (y ∷ []) ∙ go (has y l)
  where
    go : (t : Bool) → (t || (eqb y y || false)) ≡ true
    go true = refl
    go false = rw (eq-eqb y y refl) refl

pub in_map : (f : ℕ → ℕ) (y : ℕ) (l : List ℕ) → y ∈ map f l → (x : ℕ) × (x ∈ l) × (y ≡ f x)
in_map f y [] h = never h
in_map f y (x ∷ l) h = go (in_map f y l) (in-cons y (f x) (map f l) h)
  where
    go : (y ∈ map f l → (z : ℕ) × (z ∈ l) × (y ≡ f z)) → (y ≡ f x) ⊎ (y ∈ map f l) → (z : ℕ) × (z ∈ (x ∷ l)) × (y ≡ f z)
    go ih (inl e) = (x, here x l, e)
    go ih (inr k) = let r = ih k in (r.0, there r.0 x l r.1, r.2)

pub map-in : (f : ℕ → ℕ) (x : ℕ) (l : List ℕ) → x ∈ l → f x ∈ map f l
map-in f x [] h = never h
map-in f x (y ∷ l) h = ⊎_elim (λ (e : x ≡ y). here_eq (f x) (f y) (map f l) (ap f e)) (λ (k : x ∈ l). there (f x) (f y) (map f l) (map-in f x l k)) (in-cons x y l h)

-- ---- one more at the end of an ascending list

pub asc-snoc : (x : ℕ) (a : List ℕ) → Ascending a → ((z : ℕ) → z ∈ a → z < x) → Ascending (a ++ (x ∷ []))
asc-snoc x [] u h = ((λ y i. never i), tt)
asc-snoc x (y ∷ a) u h =
    ((λ z i. ⊎_elim (λ (k : z ∈ a). u.0 z k) (λ (e : z ≡ x). rw e (h y (here y a))) (in-snoc z x a i)), asc-snoc x a u.1 (λ z i. h z (there z y a i)))

-- ---- none twice

pub single-snoc : (x : ℕ) (l : List ℕ) → Single l → x ∉ l → Single (l ++ (x ∷ []))
single-snoc x [] s o = (refl, tt)
single-snoc x (y ∷ l) s o = (
  out y (l ++ (x ∷ [])) (λ i. ⊎_elim (λ (k : y ∈ l). both y l k s.0) (λ (e : y ≡ x). both x (y ∷ l) (rw e (here x l)) o) (in-snoc y x l i)),
  single-snoc x l s.1 (out x l (λ i. both x (y ∷ l) (there x y l i) o)),
)

pub single-front : (q : ℕ) (l : List ℕ) → Single l → Single (take q l)
single-front zero l s = tt
single-front (suc q) [] s = tt
single-front (suc q) (x ∷ l) s = (out x (take q l) (λ i. both x l (in_take x q l i) s.0), single-front q l s.1)

pub single-map : (f : ℕ → ℕ) (l : List ℕ) → ((x y : ℕ) → x ∈ l → y ∈ l → f x ≡ f y → x ≡ y) → Single l → Single (map f l)
single-map f [] inj s = tt
single-map f (x ∷ l) inj s = (
  out (f x) (map f l) (λ i. let r = in_map f (f x) l i in both x l (rw (inj x r.0 (here x l) (there r.0 x l r.1) r.2) r.1) s.0),
  single-map f l (λ y z i j. inj y z (there y x l i) (there z x l j)) s.1,
)

-- ---- sums

module _ (w : ℕ → ℕ) where
  total-add : (x : ℕ) (l : List ℕ) → x ∉ l → total w (add x l) ≡ w x + total w l
  unfolding add total
  total-add x [] o = refl
  total-add x (y ∷ l) o = go (total-add x l) (ltb x y) (eqb y x) o
    where
      go : (x ∉ l → total w (add x l) ≡ w x + total w l) → (p q : Bool) → (q || has x l) ≡ false → total w (cond p (x ∷ y ∷ l) (cond q (y ∷ l) (y ∷ add x l))) ≡ w x + (w y + total w l)
      go ih true q e = refl
      go ih false true e = never (sym e)
      go ih false false e = omega (arith, ih e)

  not-all : (x : ℕ) (l : List ℕ) → x ∉ l → x ∉ add_all l []
  not-all x l o = out x (add_all l []) (λ i. ⊎_elim (λ (k : x ∈ l). both x l k o) (λ (k : x ∈ []). never k) (in_all x l [] i))

  pub total-all : (l : List ℕ) → Single l → total w (add_all l []) ≡ total w l
  unfolding add_all total
  total-all [] s = refl
  total-all (x ∷ l) s = total-add x (add_all l []) (not-all x l s.0) ∙ ap (λ (k : ℕ). w x + k) (total-all l s.1)

  -- where the test fails there is nothing to add
  pub total_kept : (t : ℕ → Bool) → ((x : ℕ) → t x ≡ false → w x ≡ 0) → (l : List ℕ) → total w (keep t l) ≡ total w l
  unfolding keep total
  total_kept t z [] = refl
  total_kept t z (x ∷ l) = go (total_kept t z l) (t x) refl
    where
      go : total w (keep t l) ≡ total w l → (b : Bool) → t x ≡ b → total w (cond b (x ∷ keep t l) (keep t l)) ≡ w x + total w l
      go ih true e = ap (λ (k : ℕ). w x + k) ih
      go ih false e = omega (arith, z x e)

  pub total-map : (f : ℕ → ℕ) (l : List ℕ) → total w (map f l) ≡ total (λ x. w (f x)) l
  unfolding total
  total-map f [] = refl
  total-map f (x ∷ l) = ap (λ (k : ℕ). w (f x) + k) (total-map f l)

length-all : (l : List ℕ) → Single l → length (add_all l []) ≡ length l
unfolding add_all
length-all [] s = refl
length-all (x ∷ l) s = length-add x (add_all l []) (not-all (λ z. z) x l s.0) ∙ ap suc (length-all l s.1)

-- ---- numbers below n

up_to : ℕ → List ℕ
up_to zero = []
up_to (suc n) = n ∷ up_to n

length-up_to : (n : ℕ) → length (up_to n) ≡ n
unfolding up_to
length-up_to zero = refl
length-up_to (suc n) = ap suc (length-up_to n)

in-up_to : (n x : ℕ) → x < n → x ∈ up_to n
unfolding up_to
in-up_to zero x h = absurd (omega arith)
in-up_to (suc n) x h = go (in-up_to n x) (ℕ_discrete x n)
  where
    go : (x < n → x ∈ up_to n) → Dec (x ≡ n) → x ∈ (n ∷ up_to n)
    go ih (yes e) = here_eq x n (up_to n) e
    go ih (no q) = there x n (up_to n) (ih (omega arith))

pub no_more : (n : ℕ) (l : List ℕ) → Single l → ((x : ℕ) → x ∈ l → x < n) → length l ≤ n
no_more n l s b =
    omega (arith, fits (add_all l []) (up_to n) (asc-all l [] tt) inside, length-all l s, length-up_to n)
  where
    inside : (x : ℕ) → x ∈ add_all l [] → x ∈ up_to n
    inside x i = ⊎_elim (λ (k : x ∈ l). in-up_to n x (b x k)) (λ (k : x ∈ []). never k) (in_all x l [] i)
