-- Marks raised by a list of ids:
--     raised-start, raised-next, raised-end     id by id
--     one_hit, one-miss                         what one id does, by where it is found
--     owned-marks                               the two lists of a query, one after the other
-- Assumes nothing.
use Prim.Native.Nat.{ℕ, zero, suc, ◌+◌, ◌-◌, ◌*◌, ◌<◌, ◌≤◌}
use native.Mathlib.Omega.{arith}
use native.Mathlib.Numerals.{add-one}
use native.Mathlib.Decide.{ℕ_discrete, dec_lt}
use mathlib.Core.Path.{◌≡◌, refl, sym, ap, ◌∙◌}
use mathlib.Core.Bool.{Bool, true, false, cond, ◌&&◌, ◌||◌}
use mathlib.Core.List.{List, [], ◌∷◌, ◌++◌}
use borrow.Author.Tests.{eq-eqb, ne_eqb}
use lib.Dec.{eqb}
use lib.ListN.{length, get_or, set, take, replicate, get_or-replicate}
use lib.Seq.{take-suc, take_all, take-set-le, get_or-set_same, get_or-set_other}
use Rattle.lists.specs.Lists.{has}
use Rattle.lists.proofs.SetLaws.{has-append}
use Rattle.words.specs.Part.{part, put}
use Rattle.words.specs.Table.{ids, where_is, Ascends, Found, At, Nothing}
use Rattle.words.proofs.PartLaws.{part_length, part_at, part-as, Loan, loan}
use Rattle.words.proofs.TableLaws.{at-is, nothing_is}
use Rattle.tabled.proofs.Kept.{word_kept, part-kept}
use Rattle.owned.specs.Marks.{Marked, raise, Raised, status_of}

-- ---- one mark

raise-more : (l : List ℕ) (x from to a m : ℕ) → (from ≡ to → ⊥) → raise (l ++ (x ∷ [])) from to a m ≡ raise (x ∷ []) from to a (raise l from to a m)
raise-more l x from to a m n = rw (has-append a l (x ∷ [])) (go (has a l) (eqb x a) (eqb m from) refl)
  where
    go : (p q t : Bool) → eqb m from ≡ t → cond ((p || (q || false)) && t) to m ≡ cond ((q || false) && eqb (cond (p && t) to m) from) to (cond (p && t) to m)
    go true true true e = rw (ne_eqb to from (λ z. n (sym z))) refl
    go true true false e = rw e refl
    go true false true e = refl
    go true false false e = refl
    go false true true e = rw e refl
    go false true false e = rw e refl
    go false false true e = refl
    go false false false e = refl

-- ---- id by id

pub raised-start : (list : List ℕ) (from to b s k : ℕ) (w : List ℕ) → Raised (take 0 list) from to b s k w w
raised-start list from to b s k w = record { front = refl; each = λ p h. refl }

pub raised-next : (list : List ℕ) (j from to b s k : ℕ) (w₀ w w' : List ℕ) → (from ≡ to → ⊥) → b + k ≤ s → j < length list → Raised (take j list) from to b s k w₀ w
    → Raised (get_or list j 0 ∷ []) from to b s k w w' → Raised (take (j + 1) list) from to b s k w₀ w'
raised-next list j from to b s k w₀ w w' n apart h r o =
    record {
      front = o.front ∙ r.front;
      each = λ p q.
          o.each p q
          ∙ ap (λ (a : ℕ). raise (get_or list j 0 ∷ []) from to a (get_or w (s + p) 0)) (word_kept w w₀ s r.front (b + p) (omega arith))
          ∙ ap (λ (m : ℕ). raise (get_or list j 0 ∷ []) from to (get_or w₀ (b + p) 0) m) (r.each p q)
          ∙ sym (raise-more (take j list) (get_or list j 0) from to (get_or w₀ (b + p) 0) (get_or w₀ (s + p) 0) n)
          ∙ ap (λ (l : List ℕ). raise l from to (get_or w₀ (b + p) 0) (get_or w₀ (s + p) 0)) (sym more);
    }
  where
    more : take (j + 1) list ≡ take j list ++ (get_or list j 0 ∷ [])
    more = rw add-one (take-suc list j 0 h)

pub raised-end : (list : List ℕ) (j from to b s k : ℕ) (w₀ w : List ℕ) → length list ≤ j → Raised (take j list) from to b s k w₀ w → Raised list from to b s k w₀ w
raised-end list j from to b s k w₀ w h r = let e : take j list ≡ list = take_all j list h in rw e at r

-- ---- one id x among the k ids, which ascend

-- the ids of rows of one word
pub ids-one : (l : List ℕ) (k : ℕ) → length l ≡ k → ids l 1 k ≡ l
ids-one [] zero e = refl
ids-one [] (suc k) e = absurd (omega arith)
ids-one (x ∷ l) zero e = absurd (omega arith)
ids-one (x ∷ l) (suc k) e = ap (λ (t : List ℕ). x ∷ t) (ids-one l k (omega arith))

module _ (b s k : ℕ) (w : List ℕ) (apart : b + k ≤ s) (room : s + k ≤ length w) (up : Ascends (part w b k)) where
  cut : part w b (b + k - b) ≡ part w b k
  cut = part-as w b (b + k) k refl

  size : length (part w b k) ≡ k
  size = part_length w b k (omega arith)

  pub one-asks : (0 < 1) × ((k * 1 ≤ length (part w b (b + k - b))) × Ascends (ids (part w b (b + k - b)) 1 k))
  one-asks = (omega arith, (rw (cut, size) (omega arith), rw (cut, ids-one (part w b k) k size) up))

module _ (x from to b s k : ℕ) (w : List ℕ) (apart : b + k ≤ s) (room : s + k ≤ length w) (up : Ascends (part w b k)) (f : Found) (is : f ≡ where_is (ids (part w b (b + k - b)) 1 k) x) where
  sized : length (part w b k) ≡ k
  sized = size b s k w apart room up

  found_in : f ≡ where_is (part w b k) x
  found_in = is ∙ ap (λ (l : List ℕ). where_is l x) (ap (λ (l : List ℕ). ids l 1 k) (cut b s k w apart room up) ∙ ids-one (part w b k) k sized)

  pub one-miss : f ≡ Nothing → Raised (x ∷ []) from to b s k w w
  one-miss e = record { front = refl; each = λ p h. rw (ne_eqb x (get_or w (b + p) 0) (other p h)) refl }
    where
      other : (p : ℕ) → p < k → x ≡ get_or w (b + p) 0 → ⊥
      other p h z = nothing_is (part w b k) x (sym found_in ∙ e) p (rw sized h) (part_at w b k p h ∙ sym z)

  module _ (i : ℕ) (e : f ≡ At i) where
    place : (i < k) × (get_or w (b + i) 0 ≡ x)
    place =
        let a = at-is (part w b k) x i (sym found_in ∙ e) in
        let h : i < k = omega (arith, a.0, sized) in
        (h, sym (part_at w b k i h) ∙ a.1)

    pub hit-room : s + i < length w
    hit-room = omega (arith, place.0)

    -- another place holds another id
    apart-at : (p : ℕ) → p < k → (p ≡ i → ⊥) → x ≡ get_or w (b + p) 0 → ⊥
    apart-at p h n z = go (dec_lt p i)
      where
        pq : (p q : ℕ) → p < q → q < k → get_or w (b + p) 0 < get_or w (b + q) 0
        pq p q l m = rw (part_at w b k p (omega arith), part_at w b k q m) at (up p q l (rw sized m))

        go : Dec (p < i) → ⊥
        go (yes l) = omega (arith, pq p i l place.0, place.1)
        go (no l) = omega (arith, pq i p (omega arith) h, place.1)

    pub one_hit : (w' : List ℕ) → w' ≡ cond (eqb (get_or w (s + i) 0) from) (set w (s + i) to) w → Raised (x ∷ []) from to b s k w w'
    one_hit w' e' = rw e' (go (eqb (get_or w (s + i) 0) from) refl)
      where
        go : (t : Bool) → eqb (get_or w (s + i) 0) from ≡ t → Raised (x ∷ []) from to b s k w (cond t (set w (s + i) to) w)
        go true t = record { front = take-set-le s w (s + i) to (omega arith); each = λ p h. at_p p h (ℕ_discrete p i) }
          where
            at_p : (p : ℕ) → p < k → Dec (p ≡ i) → get_or (set w (s + i) to) (s + p) 0 ≡ raise (x ∷ []) from to (get_or w (b + p) 0) (get_or w (s + p) 0)
            at_p p h (yes z) = rw (z, place.1, eq-eqb x x refl, t) (get_or-set_same w (s + i) to 0 hit-room)
            at_p p h (no n) = rw (ne_eqb x (get_or w (b + p) 0) (apart-at p h n)) (get_or-set_other w (s + i) (s + p) to 0 (λ z. n (omega arith)))
        go false t = record { front = refl; each = λ p h. at_p p h (ℕ_discrete p i) }
          where
            at_p : (p : ℕ) → p < k → Dec (p ≡ i) → get_or w (s + p) 0 ≡ raise (x ∷ []) from to (get_or w (b + p) 0) (get_or w (s + p) 0)
            at_p p h (yes z) = rw (z, place.1, eq-eqb x x refl, t) refl
            at_p p h (no n) = rw (ne_eqb x (get_or w (b + p) 0) (apart-at p h n)) refl

-- ---- both lists of a query

-- marks that were cleared
pub cleared : (b s k : ℕ) (w ys : List ℕ) → s + k ≤ length w → length ys ≡ length (part w s (s + k - s)) → ys ≡ replicate (length (part w s (s + k - s))) 0 → Marked (λ x. 0) b s k w (put w s (s + k - s) ys)
cleared b s k w ys h l e =
    let n : Loan w s k ys (put w s (s + k - s) ys) = loan w s (s + k) k ys refl h l in
    record { front = n.front s (omega arith); each = λ p q. sym (part_at (put w s (s + k - s) ys) s k p q) ∙ ap (λ (t : List ℕ). get_or t p 0) (n.here ∙ e) ∙ zero-at (length (part w s (s + k - s))) p (omega (arith, l, n.size)) }
  where
    zero-at : (m p : ℕ) → p < m → ◌≡◌ {A = ℕ} (get_or (replicate m 0) p 0) 0
    zero-at m p q = get_or-replicate m p 0 0 q

-- what the next pass asks, once the marks were changed and nothing before them
pub again-asks : (b s k : ℕ) (w w' : List ℕ) → b + k ≤ s → s + k ≤ length w → Ascends (part w b k) → take s w' ≡ take s w → length w' ≡ length w → (s + k ≤ length w') × Ascends (part w' b k)
again-asks b s k w w' h l u e z = (omega arith, rw (part-kept w' w s e b k h) u)

pub cleared-length : (s k : ℕ) (w ys : List ℕ) → s + k ≤ length w → length ys ≡ length (part w s (s + k - s)) → length (put w s (s + k - s) ys) ≡ length w
cleared-length s k w ys h l = (loan w s (s + k) k ys refl h l).len

pub owned-marks : (history completed : List ℕ) (b s k : ℕ) (w w₁ w₂ w₃ : List ℕ) → b + k ≤ s → Marked (λ x. 0) b s k w w₁ → Raised history 0 1 b s k w₁ w₂ → Raised completed 1 2 b s k w₂ w₃
    → Marked (status_of history completed) b s k w w₃
owned-marks history completed b s k w w₁ w₂ w₃ apart m r q =
    record { front = q.front ∙ r.front ∙ m.front; each = at_p }
  where
    status : (x y : Bool) → ◌≡◌ {A = ℕ} (cond (y && eqb (cond (x && true) 1 0) 1) 2 (cond (x && true) 1 0)) (cond x (cond y 2 1) 0)
    status true true = refl
    status true false = refl
    status false true = refl
    status false false = refl

    at_p : (p : ℕ) → p < k → get_or w₃ (s + p) 0 ≡ status_of history completed (get_or w (b + p) 0)
    at_p p h =
        let x : ℕ = get_or w (b + p) 0 in
        let e₁ : get_or w₁ (b + p) 0 ≡ x = word_kept w₁ w s m.front (b + p) (omega arith) in
        let e₂ : get_or w₂ (b + p) 0 ≡ x = word_kept w₂ w₁ s r.front (b + p) (omega arith) ∙ e₁ in
        let v₂ : get_or w₂ (s + p) 0 ≡ raise history 0 1 x 0 = r.each p h ∙ rw (e₁, m.each p h) refl in
        q.each p h ∙ rw (e₂, v₂) (status (has x history) (has x completed))
