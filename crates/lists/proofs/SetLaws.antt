-- Laws of lists of ids read as sets: membership (`has`), `add`, `add_all`, `keep`, and ascending lists, by induction on the list.
-- Membership laws are equations of Bools and hold of all lists; that lists ascend is shown apart.
-- Assumes nothing.
use mathlib.Core.Path.{◌≡◌, refl, sym, ap, ◌∙◌}
use mathlib.Core.Bool.{Bool, true, false, cond, ◌&&◌, ◌||◌}
use mathlib.Core.Logic.{◌⊎◌, inl, inr, ⊎_elim}
use mathlib.Core.List.{List, [], ◌∷◌, ◌++◌, map}
use Prim.Native.Nat.{ℕ, zero, suc, ◌+◌, ◌<◌, ◌≤◌, zero-le}
use native.Mathlib.Decide.{ℕ_discrete}
use native.Mathlib.Omega.{arith}
use borrow.Author.Tests.{eq-eqb, eqb-true, eqb-false, ltb-true, ltb-false}
use lib.Dec.{eqb, ltb}
use lib.ListN.{length, get_or, take}
use lib.Seq.{take-length}
use Rattle.lists.specs.Lists.{has, ◌∈◌, ◌∉◌}
use Rattle.lists.specs.Sort.{sorted}
use Rattle.lists.specs.Sets.{Ascending, add, add_all, keep, total}
use Rattle.lists.proofs.SortLaws.{true-or-false}
use Rattle.lists.proofs.Tests.{any-sorted}
use Rattle.lists.proofs.RowOrder as RowOrder

-- ---- tests

pub never : {X : Type 0} → false ≡ true → X
never e = RowOrder.no (sym e)

or_left : (a b : Bool) → a ≡ true → (a || b) ≡ true
or_left true b e = refl
or_left false b e = never e

or_right : (a b : Bool) → b ≡ true → (a || b) ≡ true
or_right true b e = refl
or_right false b e = e

or-either : (a b : Bool) → (a || b) ≡ true → (a ≡ true) ⊎ (b ≡ true)
or-either true b e = inl refl
or-either false b e = inr e

or-twice : (a b : Bool) → (a || b) ≡ (a || (a || b))
or-twice true b = refl
or-twice false b = refl

or_swap : (a b c : Bool) → (a || (b || c)) ≡ (b || (a || c))
or_swap true true c = refl
or_swap true false c = refl
or_swap false true c = refl
or_swap false false c = refl

pub and_both : (a b : Bool) → (a && b) ≡ true → (a ≡ true) × (b ≡ true)
and_both true b e = (refl, e)
and_both false b e = never e

pub and-of : (a b : Bool) → a ≡ true → b ≡ true → (a && b) ≡ true
and-of true b p q = q
and-of false b p q = never p

-- ---- membership

pub here : (x : ℕ) (l : List ℕ) → x ∈ (x ∷ l)
here x l = or_left _ _ (eq-eqb x x refl)

-- the same where the head is another word for x
pub here_eq : (x y : ℕ) (l : List ℕ) → x ≡ y → x ∈ (y ∷ l)
here_eq x y l e = or_left _ _ (eq-eqb y x (sym e))

pub there : (x y : ℕ) (l : List ℕ) → x ∈ l → x ∈ (y ∷ l)
there x y l h = or_right (eqb y x) _ h

pub in-cons : (x y : ℕ) (l : List ℕ) → x ∈ (y ∷ l) → (x ≡ y) ⊎ (x ∈ l)
in-cons x y l h = go (or-either (eqb y x) (has x l) h)
  where
    go : (eqb y x ≡ true) ⊎ (x ∈ l) → (x ≡ y) ⊎ (x ∈ l)
    go (inl e) = inl (sym (eqb-true y x e))
    go (inr k) = inr k

pub has-append : (z : ℕ) (a b : List ℕ) → has z (a ++ b) ≡ (has z a || has z b)
has-append z [] b = refl
has-append z (x ∷ a) b = go (has-append z a b) (eqb x z)
  where
    go : has z (a ++ b) ≡ (has z a || has z b) → (t : Bool) → (t || has z (a ++ b)) ≡ ((t || has z a) || has z b)
    go ih true = refl
    go ih false = ih

pub in_left : (z : ℕ) (a b : List ℕ) → z ∈ a → z ∈ (a ++ b)
in_left z a b h = has-append z a b ∙ or_left _ _ h

pub in_right : (z : ℕ) (a b : List ℕ) → z ∈ b → z ∈ (a ++ b)
in_right z a b h = has-append z a b ∙ or_right (has z a) _ h

pub in_take : (x q : ℕ) (l : List ℕ) → x ∈ take q l → x ∈ l
in_take x zero l h = never h
in_take x (suc q) [] h = never h
in_take x (suc q) (y ∷ l) h = ⊎_elim (λ (e : x ≡ y). here_eq x y l e) (λ (k : x ∈ take q l). there x y l (in_take x q l k)) (in-cons x y (take q l) h)

-- what is sorted has the same keys
module _ {A : Type 0} (le : A → A → Bool) (key : A → ℕ) (z : ℕ) where
  pub has-sorted : (l : List A) → has z (map key (sorted le l)) ≡ has z (map key l)
  has-sorted = any-sorted le (λ (l : List A). has z (map key l)) (λ (x : A). eqb (key x) z) (λ x l. refl)

-- ---- add

pub has-add : (z x : ℕ) (l : List ℕ) → has z (add x l) ≡ (eqb x z || has z l)
unfolding add
has-add z x [] = refl
has-add z x (y ∷ ys) = go (has-add z x ys) (ltb x y) (eqb y x) refl
  where
    go : has z (add x ys) ≡ (eqb x z || has z ys) → (a b : Bool) → eqb y x ≡ b
        → has z (cond a (x ∷ y ∷ ys) (cond b (y ∷ ys) (y ∷ add x ys))) ≡ (eqb x z || (eqb y z || has z ys))
    go ih true b e = refl
    go ih false true e = rw (eqb-true y x e) (or-twice (eqb x z) (has z ys))
    go ih false false e = ap (λ (t : Bool). eqb y z || t) ih ∙ or_swap (eqb y z) (eqb x z) (has z ys)

pub add-here : (x : ℕ) (l : List ℕ) → x ∈ add x l
add-here x l = has-add x x l ∙ here x l

pub add-there : (z x : ℕ) (l : List ℕ) → z ∈ l → z ∈ add x l
add-there z x l h = has-add z x l ∙ there z x l h

pub in-add : (z x : ℕ) (l : List ℕ) → z ∈ add x l → (z ≡ x) ⊎ (z ∈ l)
in-add z x l h = in-cons z x l (sym (has-add z x l) ∙ h)

pub asc-add : (x : ℕ) (l : List ℕ) → Ascending l → Ascending (add x l)
unfolding add
asc-add x [] a = ((λ y h. never h), tt)
asc-add x (y ∷ ys) a = go (asc-add x ys a.1) (ltb x y) refl (eqb y x) refl
  where
    above : x < y → (z : ℕ) → (z ≡ y) ⊎ (z ∈ ys) → x < z
    above l z (inl e) = omega arith
    above l z (inr h) = omega (arith, a.0 z h)

    over : y < x → (z : ℕ) → (z ≡ x) ⊎ (z ∈ ys) → y < z
    over l z (inl e) = omega arith
    over l z (inr h) = a.0 z h

    go : Ascending (add x ys) → (p : Bool) → ltb x y ≡ p → (q : Bool) → eqb y x ≡ q → Ascending (cond p (x ∷ y ∷ ys) (cond q (y ∷ ys) (y ∷ add x ys)))
    go ih true e q k = ((λ z h. above (ltb-true x y e) z (in-cons z y ys h)), a)
    go ih false e true k = a
    go ih false e false k =
        let l : y < x = omega (arith, ltb-false x y e, eqb-false y x k) in
        ((λ z h. over l z (in-add z x ys h)), ih)

pub length-add : (x : ℕ) (l : List ℕ) → x ∉ l → length (add x l) ≡ suc (length l)
unfolding add
length-add x [] h = refl
length-add x (y ∷ ys) h = go (length-add x ys) (ltb x y) (eqb y x) refl h
  where
    go : (x ∉ ys → length (add x ys) ≡ suc (length ys)) → (p q : Bool) → eqb y x ≡ q → (q || has x ys) ≡ false
        → length (cond p (x ∷ y ∷ ys) (cond q (y ∷ ys) (y ∷ add x ys))) ≡ suc (suc (length ys))
    go ih true q k e = refl
    go ih false true k e = never (sym e)
    go ih false false k e = ap suc (ih e)

-- ---- add_all

pub all_left : (z : ℕ) (xs l : List ℕ) → z ∈ xs → z ∈ add_all xs l
unfolding add_all
all_left z [] l h = never h
all_left z (x ∷ xs) l h = go (all_left z xs l) (in-cons z x xs h)
  where
    go : (z ∈ xs → z ∈ add_all xs l) → (z ≡ x) ⊎ (z ∈ xs) → z ∈ add x (add_all xs l)
    go ih (inl e) = rw e (add-here x (add_all xs l))
    go ih (inr k) = add-there z x (add_all xs l) (ih k)

pub all_right : (z : ℕ) (xs l : List ℕ) → z ∈ l → z ∈ add_all xs l
unfolding add_all
all_right z [] l h = h
all_right z (x ∷ xs) l h = add-there z x (add_all xs l) (all_right z xs l h)

pub in_all : (z : ℕ) (xs l : List ℕ) → z ∈ add_all xs l → (z ∈ xs) ⊎ (z ∈ l)
unfolding add_all
in_all z [] l h = inr h
in_all z (x ∷ xs) l h = go (in_all z xs l) (in-add z x (add_all xs l) h)
  where
    on : (z ∈ xs) ⊎ (z ∈ l) → (z ∈ (x ∷ xs)) ⊎ (z ∈ l)
    on (inl k) = inl (there z x xs k)
    on (inr k) = inr k

    go : (z ∈ add_all xs l → (z ∈ xs) ⊎ (z ∈ l)) → (z ≡ x) ⊎ (z ∈ add_all xs l) → (z ∈ (x ∷ xs)) ⊎ (z ∈ l)
    go ih (inl e) = inl (here_eq z x xs e)
    go ih (inr k) = on (ih k)

pub asc-all : (xs l : List ℕ) → Ascending l → Ascending (add_all xs l)
unfolding add_all
asc-all [] l a = a
asc-all (x ∷ xs) l a = asc-add x (add_all xs l) (asc-all xs l a)

-- ---- an ascending list is no longer than a list that has all its ids

unfoldable remove : ℕ → List ℕ → List ℕ
remove x [] = []
remove x (y ∷ ys) = cond (eqb y x) ys (y ∷ remove x ys)

length-remove : (x : ℕ) (l : List ℕ) → x ∈ l → suc (length (remove x l)) ≡ length l
unfolding remove
length-remove x [] h = never h
length-remove x (y ∷ ys) h = go (length-remove x ys) (eqb y x) h
  where
    go : (x ∈ ys → suc (length (remove x ys)) ≡ length ys) → (t : Bool) → (t || has x ys) ≡ true → suc (length (cond t ys (y ∷ remove x ys))) ≡ suc (length ys)
    go ih true e = refl
    go ih false e = ap suc (ih e)

in_remove : (z x : ℕ) (l : List ℕ) → (z ≡ x → ⊥) → z ∈ l → z ∈ remove x l
unfolding remove
in_remove z x [] n h = never h
in_remove z x (y ∷ ys) n h = go (in_remove z x ys n) (eqb y x) refl (in-cons z y ys h)
  where
    go : (z ∈ ys → z ∈ remove x ys) → (t : Bool) → eqb y x ≡ t → (z ≡ y) ⊎ (z ∈ ys) → z ∈ cond t ys (y ∷ remove x ys)
    go ih true e (inl k) = absurd (n (k ∙ eqb-true y x e))
    go ih true e (inr k) = k
    go ih false e (inl k) = here_eq z y (remove x ys) k
    go ih false e (inr k) = there z y (remove x ys) (ih k)

pub fits : (l P : List ℕ) → Ascending l → ((x : ℕ) → x ∈ l → x ∈ P) → length l ≤ length P
fits [] P a s = zero-le
fits (x ∷ l) P a s =
    omega (arith, fits l (remove x P) a.1 (λ z h. in_remove z x P (λ e. le-irr z (a.0 z h) e) (s z (there z x l h))), length-remove x P (s x (here x l)))
  where
    le-irr : (z : ℕ) → x < z → z ≡ x → ⊥
    le-irr z h e = omega arith

-- ---- keep

pub has-keep : (t : ℕ → Bool) (z : ℕ) (l : List ℕ) → has z (keep t l) ≡ (has z l && t z)
unfolding keep
has-keep t z [] = refl
has-keep t z (x ∷ xs) = go (has-keep t z xs) (t x) refl (eqb x z) refl
  where
    go : has z (keep t xs) ≡ (has z xs && t z) → (a : Bool) → t x ≡ a → (b : Bool) → eqb x z ≡ b
        → has z (cond a (x ∷ keep t xs) (keep t xs)) ≡ ((b || has z xs) && t z)
    go ih true e true k = or_left (eqb x z) _ k ∙ sym (ap t (sym (eqb-true x z k)) ∙ e)
    go ih true e false k = rw k ih
    go ih false e true k = ih ∙ no-z (has z xs) (ap t (sym (eqb-true x z k)) ∙ e)
      where
        no-z : (h : Bool) → t z ≡ false → (h && t z) ≡ t z
        no-z true q = refl
        no-z false q = sym q
    go ih false e false k = ih

pub in-keep : (t : ℕ → Bool) (z : ℕ) (l : List ℕ) → z ∈ keep t l → (z ∈ l) × (t z ≡ true)
in-keep t z l h = and_both (has z l) (t z) (sym (has-keep t z l) ∙ h)

pub keep-in : (t : ℕ → Bool) (z : ℕ) (l : List ℕ) → z ∈ l → t z ≡ true → z ∈ keep t l
keep-in t z l h e = has-keep t z l ∙ and-of (has z l) (t z) h e

pub asc-keep : (t : ℕ → Bool) (l : List ℕ) → Ascending l → Ascending (keep t l)
unfolding keep
asc-keep t [] a = tt
asc-keep t (x ∷ xs) a = go (asc-keep t xs a.1) (t x)
  where
    go : Ascending (keep t xs) → (b : Bool) → Ascending (cond b (x ∷ keep t xs) (keep t xs))
    go ih true = ((λ z h. a.0 z (in-keep t z xs h).0), ih)
    go ih false = ih

pub keep-shorter : (t : ℕ → Bool) (l : List ℕ) → length (keep t l) ≤ length l
unfolding keep
keep-shorter t [] = zero-le
keep-shorter t (x ∷ xs) = go (keep-shorter t xs) (t x)
  where
    go : length (keep t xs) ≤ length xs → (b : Bool) → length (cond b (x ∷ keep t xs) (keep t xs)) ≤ suc (length xs)
    go ih true = omega arith
    go ih false = omega arith

pub add-longer : (x : ℕ) (l : List ℕ) → length (add x l) ≤ suc (length l)
unfolding add
add-longer x [] = omega arith
add-longer x (y ∷ ys) = go (add-longer x ys) (ltb x y) (eqb y x)
  where
    go : length (add x ys) ≤ suc (length ys) → (a b : Bool) → length (cond a (x ∷ y ∷ ys) (cond b (y ∷ ys) (y ∷ add x ys))) ≤ suc (suc (length ys))
    go ih true b = omega arith
    go ih false true = omega arith
    go ih false false = omega arith

-- tests that agree on a list keep the same of it
pub keep_same : (t u : ℕ → Bool) (l : List ℕ) → ((x : ℕ) → x ∈ l → t x ≡ u x) → keep t l ≡ keep u l
unfolding keep
keep_same t u [] s = refl
keep_same t u (x ∷ xs) s =
    rw (s x (here x xs), keep_same t u xs (λ z h. s z (there z x xs h))) refl

pub keep-keep : (t u : ℕ → Bool) (l : List ℕ) → keep u (keep t l) ≡ keep (λ x. t x && u x) l
unfolding keep
keep-keep t u [] = refl
keep-keep t u (x ∷ xs) = go (keep-keep t u xs) (t x)
  where
    go : keep u (keep t xs) ≡ keep (λ z. t z && u z) xs → (b : Bool)
        → keep u (cond b (x ∷ keep t xs) (keep t xs)) ≡ cond (b && u x) (x ∷ keep (λ z. t z && u z) xs) (keep (λ z. t z && u z) xs)
    go ih true = rw ih refl
    go ih false = ih

pub keep-none : (t : ℕ → Bool) (l : List ℕ) → ((x : ℕ) → x ∈ l → t x ≡ false) → keep t l ≡ []
unfolding keep
keep-none t [] s = refl
keep-none t (x ∷ xs) s = rw (s x (here x xs)) (keep-none t xs (λ z h. s z (there z x xs h)))

pub none_kept : (t : ℕ → Bool) (l : List ℕ) → keep t l ≡ [] → (x : ℕ) → x ∈ l → t x ≡ false
none_kept t l e x h = go (true-or-false (t x))
  where
    go : (t x ≡ true) ⊎ (t x ≡ false) → t x ≡ false
    go (inl k) = never (rw e at (keep-in t x l h k))
    go (inr k) = k

pub keep_all : (t : ℕ → Bool) (l : List ℕ) → ((x : ℕ) → x ∈ l → t x ≡ true) → keep t l ≡ l
unfolding keep
keep_all t [] s = refl
keep_all t (x ∷ xs) s = rw (s x (here x xs)) (ap (λ (z : List ℕ). x ∷ z) (keep_all t xs (λ z h. s z (there z x xs h))))

-- where u holds at one id less than t, it keeps one id less
pub keep-one-less : (t u : ℕ → Bool) (m : ℕ) (l : List ℕ) → Ascending l → m ∈ l → t m ≡ true → u m ≡ false → ((x : ℕ) → x ∈ l → (x ≡ m → ⊥) → u x ≡ t x)
    → length (keep t l) ≡ suc (length (keep u l))
unfolding keep
keep-one-less t u m [] a h p q s = never h
keep-one-less t u m (x ∷ xs) a h p q s =
    go (λ k. keep-one-less t u m xs a.1 k p q (λ z i. s z (there z x xs i))) (ℕ_discrete x m) (in-cons m x xs h)
  where
    apart : (z : ℕ) → x < z → z ≡ x → ⊥
    apart z l e = omega arith

    same : x ≡ m → keep u xs ≡ keep t xs
    same e = keep_same u t xs (λ z i. s z (there z x xs i) (λ k. apart z (a.0 z i) (k ∙ sym e)))

    but : (b : Bool) → length (keep t xs) ≡ suc (length (keep u xs))
        → length (cond b (x ∷ keep t xs) (keep t xs)) ≡ suc (length (cond b (x ∷ keep u xs) (keep u xs)))
    but true k = ap suc k
    but false k = k

    go : (m ∈ xs → length (keep t xs) ≡ suc (length (keep u xs))) → Dec (x ≡ m) → (m ≡ x) ⊎ (m ∈ xs)
        → length (cond (t x) (x ∷ keep t xs) (keep t xs)) ≡ suc (length (cond (u x) (x ∷ keep u xs) (keep u xs)))
    go ih (yes e) d =
        let p' : t x ≡ true = ap t e ∙ p in
        let q' : u x ≡ false = ap u e ∙ q in
        rw (p', q', same e) refl
    go ih (no n) (inl e) = absurd (n (sym e))
    go ih (no n) (inr k) = rw (s x (here x xs) n) (but (t x) (ih k))

-- two ascending lists of the same ids are one list
pub same-ids : (a b : List ℕ) → Ascending a → Ascending b → ((x : ℕ) → x ∈ a → x ∈ b) → ((x : ℕ) → x ∈ b → x ∈ a) → a ≡ b
same-ids [] [] p q s r = refl
same-ids [] (y ∷ b) p q s r = never (r y (here y b))
same-ids (x ∷ a) [] p q s r = never (s x (here x a))
same-ids (x ∷ a) (y ∷ b) p q s r =
    let e : x ≡ y = head (in-cons x y b (s x (here x a))) (in-cons y x a (r y (here y b))) in
    let t : a ≡ b = same-ids a b p.1 q.1 (λ z h. left e z h (in-cons z y b (s z (there z x a h)))) (λ z h. right e z h (in-cons z x a (r z (there z y b h)))) in
    rw (e, t) refl
  where
    head : (x ≡ y) ⊎ (x ∈ b) → (y ≡ x) ⊎ (y ∈ a) → x ≡ y
    head (inl e) d = e
    head (inr h) (inl e) = sym e
    head (inr h) (inr k) = absurd (omega (arith, q.0 x h, p.0 y k))

    left : x ≡ y → (z : ℕ) → z ∈ a → (z ≡ y) ⊎ (z ∈ b) → z ∈ b
    left e z h (inl k) = absurd (omega (arith, p.0 z h))
    left e z h (inr k) = k

    right : x ≡ y → (z : ℕ) → z ∈ b → (z ≡ x) ⊎ (z ∈ a) → z ∈ a
    right e z h (inl k) = absurd (omega (arith, q.0 z h))
    right e z h (inr k) = k

-- ---- total

pub total-same : (v w : ℕ → ℕ) (l : List ℕ) → ((x : ℕ) → x ∈ l → v x ≡ w x) → total v l ≡ total w l
unfolding total
total-same v w [] s = refl
total-same v w (x ∷ l) s = omega (arith, s x (here x l), total-same v w l (λ z h. s z (there z x l h)))

pub total-none : (l : List ℕ) → total (λ x. 0) l ≡ 0
unfolding total
total-none [] = refl
total-none (x ∷ l) = omega (arith, total-none l)

-- one id's weight is raised by k at most: over an ascending list so is the sum
pub total-raised : (v w : ℕ → ℕ) (i k : ℕ) → ((x : ℕ) → (x ≡ i → ⊥) → v x ≡ w x) → v i ≤ k + w i → (l : List ℕ) → Ascending l → total v l ≤ k + total w l
unfolding total
total-raised v w i k s h [] a = zero-le
total-raised v w i k s h (x ∷ l) a = go (total-raised v w i k s h l a.1) (eqb x i) refl
  where
    apart : (z : ℕ) → x < z → x ≡ i → z ≡ i → ⊥
    apart z q e f = omega arith

    go : total v l ≤ k + total w l → (t : Bool) → eqb x i ≡ t → v x + total v l ≤ k + (w x + total w l)
    go ih true e =
        let q : x ≡ i = eqb-true x i e in
        let r : v x ≤ k + w x = rw q h in
        omega (arith, total-same v w l (λ z m. s z (apart z (a.0 z m) q)))
    go ih false e = omega (arith, s x (eqb-false x i e))

-- ---- places in a list

-- x stands at a place before j
abbrev pub Place : ℕ → ℕ → List ℕ → Type 0
Place x j l = (k : ℕ) × (k < j) × (k < length l) × (get_or l k 0 ≡ x)

pub take-place : (x j : ℕ) (l : List ℕ) → x ∈ take j l → Place x j l
take-place x zero l h = never h
take-place x (suc j) [] h = never h
take-place x (suc j) (y ∷ l) h = go (take-place x j l) (in-cons x y (take j l) h)
  where
    go : (x ∈ take j l → Place x j l) → (x ≡ y) ⊎ (x ∈ take j l) → Place x (suc j) (y ∷ l)
    go ih (inl e) = (zero, omega arith, omega arith, sym e)
    go ih (inr k) = let r = ih k in (suc r.0, omega (arith, r.1), omega (arith, r.2), r.3)

pub has-place : (x : ℕ) (l : List ℕ) → x ∈ l → Place x (length l) l
has-place x l h = take-place x (length l) l (rw (take-length l) h)
