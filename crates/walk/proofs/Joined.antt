-- The lists that f gives for the numbers of a list, joined: one more, how long they are, and what stands in them.
-- Assumes nothing.
use Prim.Native.Nat.{ℕ, ◌+◌}
use mathlib.Core.Path.{◌≡◌, refl, sym, ap, ◌∙◌}
use mathlib.Core.Logic.{◌⊎◌, inl, inr, ⊎_elim}
use mathlib.Core.List.{List, [], ◌∷◌, ◌++◌, append-nil, append_assoc}
use lib.ListN.{length, length-append}
use Rattle.lists.specs.Lists.{has, ◌∈◌, ◌∉◌}
use Rattle.lists.specs.Sets.{total}
use Rattle.lists.proofs.SortLaws.{true-or-false}
use Rattle.lists.proofs.SetLaws.{never, here, there, in-cons, in_left, in_right, has-append}

unfoldable pub joined : (ℕ → List ℕ) → List ℕ → List ℕ
joined f [] = []
joined f (x ∷ l) = f x ++ joined f l

pub joined_snoc : (f : ℕ → List ℕ) (l : List ℕ) (x : ℕ) → joined f (l ++ (x ∷ [])) ≡ joined f l ++ f x
unfolding joined
joined_snoc f [] x = append-nil (f x)
joined_snoc f (y ∷ l) x = rw (joined_snoc f l x) (sym (append_assoc (f y) (joined f l) (f x)))

pub length-joined : (f : ℕ → List ℕ) (l : List ℕ) → length (joined f l) ≡ total (λ x. length (f x)) l
unfolding joined total
length-joined f [] = refl
length-joined f (x ∷ l) = length-append (f x) (joined f l) ∙ ap (λ (k : ℕ). length (f x) + k) (length-joined f l)

pub in-joined : (f : ℕ → List ℕ) (z : ℕ) (l : List ℕ) → z ∈ joined f l → (x : ℕ) × (x ∈ l) × (z ∈ f x)
unfolding joined
in-joined f z [] h = never h
in-joined f z (x ∷ l) h = go (in-joined f z l) (true-or-false (has z (f x)))
  where
    go : (z ∈ joined f l → (y : ℕ) × (y ∈ l) × (z ∈ f y)) → (z ∈ f x) ⊎ (z ∉ f x) → (y : ℕ) × (y ∈ (x ∷ l)) × (z ∈ f y)
    go ih (inl i) = (x, here x l, i)
    go ih (inr o) = let r = ih (sym (has-append z (f x) (joined f l) ∙ rw o refl) ∙ h) in (r.0, there r.0 x l r.1, r.2)

pub joined_in : (f : ℕ → List ℕ) (z x : ℕ) (l : List ℕ) → x ∈ l → z ∈ f x → z ∈ joined f l
unfolding joined
joined_in f z x [] h k = never h
joined_in f z x (y ∷ l) h k = ⊎_elim (λ (e : x ≡ y). in_left z (f y) (joined f l) (rw e at k)) (λ (i : x ∈ l). in_right z (f y) (joined f l) (joined_in f z x l i k)) (in-cons x y l h)
