-- A sort by one order is a sort by another, through a map.
--     sorted-map    `sorted leB (map f l) ≡ map f (sorted leA l)`, where the orders agree on each element and those after it in l.
--                   Only on those: so a sort by (id, row number) of keys in input order is a stable sort by id, and ids may repeat.
-- Assumes nothing.
use mathlib.Core.Bool.{Bool, true, false}
use mathlib.Core.Path.{◌≡◌, refl, ap, ◌∙◌}
use mathlib.Core.List.{List, [], ◌∷◌, map}
use mathlib.Core.Logic.{inl, inr, ⊎_elim}
use Rattle.lists.specs.Sort.{insert, sorted}
use Rattle.lists.proofs.SortLaws.{Order, In, of-sorted, true-or-false}

module _ {A B : Type 0} (f : A → B) (leA : A → A → Bool) (leB : B → B → Bool) where
  insert-map : (x : A) (l : List A) → ((y : A) → In y l → leB (f x) (f y) ≡ leA x y) → insert leB (f x) (map f l) ≡ map f (insert leA x l)
  insert-map x [] h = refl
  insert-map x (y ∷ l) h =
      ⊎_elim
      (λ (p : leA x y ≡ true). let q : leB (f x) (f y) ≡ true = h y (inl refl) ∙ p in simp (p, q))
      (λ (p : leA x y ≡ false).
      let q : leB (f x) (f y) ≡ false = h y (inl refl) ∙ p in
      simp (p, q) (ap (λ (t : List B). f y ∷ t) (insert-map x l (λ z m. h z (inr m)))))
      (true-or-false (leA x y))

  -- the two orders say the same of each element and those after it
  abbrev pub Agree : List A → Type 0
  Agree [] = Unit {0}
  Agree (x ∷ l) = ((y : A) → In y l → leB (f x) (f y) ≡ leA x y) × Agree l

  pub sorted-map : Order leA → (l : List A) → Agree l → sorted leB (map f l) ≡ map f (sorted leA l)
  sorted-map o [] g = refl
  sorted-map o (x ∷ l) g =
      ap (insert leB (f x)) (sorted-map o l g.1) ∙ insert-map x (sorted leA l) (λ y m. g.0 y (of-sorted leA o y l m))
