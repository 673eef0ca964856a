-- What `ancestors` computes is what `Ancestor` says, in ascending order, for every layout, also one with loops or parents without a row. A pass
-- that makes an ascending list no longer leaves it closed, and no list of referenced ids is longer than all references. Assumes nothing.
use mathlib.Core.Path.{◌≡◌}
use mathlib.Core.Bool.{Bool, true, false, cond}
use mathlib.Core.Logic.{◌⊎◌, inl, inr, ◌↔◌}
use mathlib.Core.List.{List, [], ◌∷◌, ◌++◌}
use Prim.Native.Nat.{ℕ, zero, suc, ◌+◌, ◌<◌, ◌≤◌}
use native.Mathlib.Decide.{dec_lt}
use native.Mathlib.Omega.{arith}
use lib.Dec.{eqb}
use lib.ListN.{length}
use Rattle.lists.specs.Lists.{has, ◌∈◌, ◌∉◌}
use Rattle.lists.specs.Sets.{Ascending, add, add_all}
use Rattle.lists.proofs.SortLaws.{true-or-false}
use Rattle.lists.proofs.SetLaws.{never, here, there, in-cons, same-ids, in_left, in_right, in-add, add-there, asc-add, length-add, all_left, all_right, in_all, asc-all, fits}
use Rattle.rules.specs.Model.{Segment}
use Rattle.rules.specs.Ancestors.{parents_of, references, Ancestor, parent, further, grow, close, ancestors, family}

-- ---- the relation

pub ancestor-trans : (S : List Segment) {x m c : ℕ} → Ancestor S x m → Ancestor S m c → Ancestor S x c
ancestor-trans S a (parent k) = further a k
ancestor-trans S a (further b k) = further (ancestor-trans S a b) k

-- an ancestor is somebody's parent
pub somebody : (S : List Segment) {x c : ℕ} → Ancestor S x c → (y : ℕ) × (x ∈ parents_of S y)
somebody S {c = c} (parent k) = (c, k)
somebody S (further a k) = somebody S a

-- ---- one pass

pub parent-referenced : (S : List Segment) (c p : ℕ) → p ∈ parents_of S c → p ∈ references S
unfolding parents_of references
parent-referenced [] c p h = never h
parent-referenced (s ∷ S) c p h = go (parent-referenced S c p) (eqb s.head.id c) h
  where
    go : (p ∈ parents_of S c → p ∈ references S) → (t : Bool) → p ∈ cond t s.parents (parents_of S c) → p ∈ (s.parents ++ references S)
    go ih true k = in_left p s.parents (references S) k
    go ih false k = in_right p s.parents (references S) (ih k)

module _ (S : List Segment) where
  -- z is one of l, or a parent of one of xs
  abbrev From : ℕ → List ℕ → List ℕ → Type 0
  From z xs l = (z ∈ l) ⊎ ((x : ℕ) × (x ∈ xs) × (z ∈ parents_of S x))

  grow-old : (z : ℕ) (xs l : List ℕ) → z ∈ l → z ∈ grow S xs l
  unfolding grow
  grow-old z [] l h = h
  grow-old z (x ∷ xs) l h = all_right z (parents_of S x) (grow S xs l) (grow-old z xs l h)

  grow-new : (z x : ℕ) (xs l : List ℕ) → x ∈ xs → z ∈ parents_of S x → z ∈ grow S xs l
  unfolding grow
  grow-new z x [] l h k = never h
  grow-new z x (y ∷ xs) l h k = go (λ i. grow-new z x xs l i k) (in-cons x y xs h)
    where
      go : (x ∈ xs → z ∈ grow S xs l) → (x ≡ y) ⊎ (x ∈ xs) → z ∈ add_all (parents_of S y) (grow S xs l)
      go ih (inl e) = all_left z (parents_of S y) (grow S xs l) (rw e at k)
      go ih (inr i) = all_right z (parents_of S y) (grow S xs l) (ih i)

  in-grow : (z : ℕ) (xs l : List ℕ) → z ∈ grow S xs l → From z xs l
  unfolding grow
  in-grow z [] l h = inl h
  in-grow z (y ∷ xs) l h = go (in-grow z xs l) (in_all z (parents_of S y) (grow S xs l) h)
    where
      on : From z xs l → From z (y ∷ xs) l
      on (inl k) = inl k
      on (inr k) = inr (k.0, there k.0 y xs k.1, k.2)

      go : (z ∈ grow S xs l → From z xs l) → (z ∈ parents_of S y) ⊎ (z ∈ grow S xs l) → From z (y ∷ xs) l
      go ih (inl k) = inr (y, here y xs, k)
      go ih (inr k) = on (ih k)

  asc-grow : (xs l : List ℕ) → Ascending l → Ascending (grow S xs l)
  unfolding grow
  asc-grow [] l a = a
  asc-grow (x ∷ xs) l a = asc-all (parents_of S x) (grow S xs l) (asc-grow xs l a)

  -- ---- all passes

  -- the parents of its ids are in it
  abbrev Closed : List ℕ → Type 0
  Closed xs = (x p : ℕ) → x ∈ xs → p ∈ parents_of S x → p ∈ xs

  abbrev Referenced : List ℕ → Type 0
  Referenced xs = (x : ℕ) → x ∈ xs → x ∈ references S

  close-old : (k z : ℕ) (xs : List ℕ) → z ∈ xs → z ∈ close S k xs
  unfolding close
  close-old zero z xs h = h
  close-old (suc k) z xs h = close-old k z (grow S xs xs) (grow-old z xs xs h)

  asc-close : (k : ℕ) (xs : List ℕ) → Ascending xs → Ascending (close S k xs)
  unfolding close
  asc-close zero xs a = a
  asc-close (suc k) xs a = asc-close k (grow S xs xs) (asc-grow xs xs a)

  -- what holds of the ids, and of a parent of one of which it holds, holds of all
  close-each : (P : ℕ → Type 0) → ((x p : ℕ) → P x → p ∈ parents_of S x → P p) → (k : ℕ) (xs : List ℕ) → ((x : ℕ) → x ∈ xs → P x) → (x : ℕ) → x ∈ close S k xs
      → P x
  unfolding close
  close-each P up zero xs b = b
  close-each P up (suc k) xs b = close-each P up k (grow S xs xs) (λ x h. go x (in-grow x xs xs h))
    where
      go : (x : ℕ) → From x xs xs → P x
      go x (inl h) = b x h
      go x (inr h) = up h.0 x (b h.0 h.1) h.2

  grow-referenced : (xs : List ℕ) → Referenced xs → Referenced (grow S xs xs)
  grow-referenced xs r x h = go (in-grow x xs xs h)
    where
      go : From x xs xs → x ∈ references S
      go (inl k) = r x k
      go (inr k) = parent-referenced S k.0 x k.2

  -- where a pass makes the list no longer, it is closed
  no_longer : (xs : List ℕ) → Ascending xs → length (grow S xs xs) ≤ length xs → Closed xs
  no_longer xs a h x p i q = go (true-or-false (has p xs))
    where
      sub : (z : ℕ) → (z ≡ p) ⊎ (z ∈ xs) → z ∈ grow S xs xs
      sub z (inl e) = rw e (grow-new p x xs xs i q)
      sub z (inr k) = grow-old z xs xs k

      go : (p ∈ xs) ⊎ (p ∉ xs) → p ∈ xs
      go (inl k) = k
      go (inr k) = absurd (omega (arith, fits (add p xs) (grow S xs xs) (asc-add p xs a) (λ z m. sub z (in-add z p xs m)), length-add p xs k))

  -- where it is as long as all references together, it is closed
  full-closed : (xs : List ℕ) → Ascending xs → Referenced xs → length (references S) ≤ length xs → Closed xs
  full-closed xs a r h = no_longer xs a (omega (arith, fits (grow S xs xs) (references S) (asc-grow xs xs a) (grow-referenced xs r)))

  grow-closed : (xs : List ℕ) → Closed xs → Closed (grow S xs xs)
  grow-closed xs c x p h q = go (in-grow x xs xs h)
    where
      go : From x xs xs → p ∈ grow S xs xs
      go (inl k) = grow-old p xs xs (c x p k q)
      go (inr k) = grow-old p xs xs (c x p (c k.0 x k.1 k.2) q)

  stays_closed : (k : ℕ) (xs : List ℕ) → Closed xs → Closed (close S k xs)
  unfolding close
  stays_closed zero xs c = c
  stays_closed (suc k) xs c = stays_closed k (grow S xs xs) (grow-closed xs c)

  close-closed : (k : ℕ) (xs : List ℕ) → Ascending xs → Referenced xs → length (references S) ≤ length xs + k → Closed (close S k xs)
  unfolding close
  close-closed zero xs a r h = full-closed xs a r (omega arith)
  close-closed (suc k) xs a r h = go (close-closed k (grow S xs xs) (asc-grow xs xs a) (grow-referenced xs r)) (dec_lt (length xs) (length (grow S xs xs)))
    where
      go : (length (references S) ≤ length (grow S xs xs) + k → Closed (close S k (grow S xs xs))) → Dec (length xs < length (grow S xs xs))
          → Closed (close S k (grow S xs xs))
      go ih (yes l) = ih (omega arith)
      go ih (no l) = stays_closed k (grow S xs xs) (grow-closed xs (no_longer xs a (omega arith)))

  -- ---- ancestors

  asc-start : (c : ℕ) → Ascending (add_all (parents_of S c) [])
  asc-start c = asc-all (parents_of S c) [] tt

  in_start : (c z : ℕ) → z ∈ add_all (parents_of S c) [] → z ∈ parents_of S c
  in_start c z h = go (in_all z (parents_of S c) [] h)
    where
      go : (z ∈ parents_of S c) ⊎ (z ∈ []) → z ∈ parents_of S c
      go (inl k) = k
      go (inr k) = never k

  pub ancestors-ascending : (c : ℕ) → Ascending (ancestors S c)
  unfolding ancestors
  ancestors-ascending c = asc-close (length (references S)) _ (asc-start c)

  ancestors-closed : (c : ℕ) → Closed (ancestors S c)
  unfolding ancestors
  ancestors-closed c = close-closed (length (references S)) (add_all (parents_of S c) []) (asc-start c) (λ x h. parent-referenced S c x (in_start c x h)) (omega arith)

  pub ancestors-sound : (x c : ℕ) → x ∈ ancestors S c → Ancestor S x c
  unfolding ancestors
  ancestors-sound x c h =
      close-each (λ z. Ancestor S z c) (λ y p a q. ancestor-trans S (parent q) a) (length (references S)) (add_all (parents_of S c) [])
      (λ z k. parent (in_start c z k)) x h

  parents-in : (c p : ℕ) → p ∈ parents_of S c → p ∈ ancestors S c
  unfolding ancestors
  parents-in c p h = close-old (length (references S)) p (add_all (parents_of S c) []) (all_left p (parents_of S c) [] h)

  pub ancestors-complete : (x c : ℕ) → Ancestor S x c → x ∈ ancestors S c
  ancestors-complete x c a = go a
    where
      up : {z y : ℕ} → Ancestor S z y → y ∈ ancestors S c → z ∈ ancestors S c
      up {z} {y} (parent k) h = ancestors-closed c y z h k
      up {z} {y} (further {q = q} b k) h = up b (ancestors-closed c y q h k)

      go : {z : ℕ} → Ancestor S z c → z ∈ ancestors S c
      go {z} (parent k) = parents-in c z k
      go {z} (further {q = q} b k) = up b (parents-in c q k)

  -- the list ascends (above), and its ids are the ancestors
  pub ancestors-are : (x c : ℕ) → x ∈ ancestors S c ↔ Ancestor S x c
  ancestors-are x c = (ancestors-sound x c, ancestors-complete x c)

  -- any other ascending list of the ancestors is this list
  pub ancestors-unique : (c : ℕ) (l : List ℕ) → Ascending l → ((x : ℕ) → x ∈ l ↔ Ancestor S x c) → l ≡ ancestors S c
  ancestors-unique c l a e = same-ids l (ancestors S c) a (ancestors-ascending c) (λ x h. ancestors-complete x c ((e x).0 h)) (λ x h. (e x).1 (ancestors-sound x c h))

  -- ---- ancestors of ancestors

  pub ancestors-further : (x m c : ℕ) → x ∈ ancestors S m → m ∈ ancestors S c → x ∈ ancestors S c
  ancestors-further x m c h k = ancestors-complete x c (ancestor-trans S (ancestors-sound x m h) (ancestors-sound m c k))

  pub family-ascending : (c : ℕ) → Ascending (family S c)
  unfolding family
  family-ascending c = asc-add c (ancestors S c) (ancestors-ascending c)

  pub in-family : (x c : ℕ) → x ∈ ancestors S c → x ∈ family S c
  unfolding family
  in-family x c h = add-there x c (ancestors S c) h

  -- the family of an ancestor are ancestors
  pub family-further : (x m c : ℕ) → x ∈ family S m → m ∈ ancestors S c → x ∈ ancestors S c
  unfolding family
  family-further x m c h k = go (in-add x m (ancestors S m) h)
    where
      go : (x ≡ m) ⊎ (x ∈ ancestors S m) → x ∈ ancestors S c
      go (inl e) = rw e k
      go (inr i) = ancestors-further x m c i k
