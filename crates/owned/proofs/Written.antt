-- A list written from the front, id by id, and that the rest stays: `Written`.
--     written_start, written_next, written-end     the loop that lists ids by their marks
--     with-keep                                    what is listed is what document 01 keeps
-- Assumes nothing.
use Prim.Native.Nat.{ℕ, zero, suc, ◌+◌, ◌<◌, ◌≤◌}
use native.Mathlib.Omega.{arith}
use native.Mathlib.Numerals.{add-one}
use mathlib.Core.Path.{◌≡◌, refl, sym, ap, ◌∙◌}
use mathlib.Core.Bool.{Bool, true, false, cond}
use mathlib.Core.List.{List, [], ◌∷◌, ◌++◌}
use lib.Dec.{eqb}
use lib.ListN.{length, get_or, set, take, drop, length-append, length-set, take-append-drop}
use lib.Seq.{take_all, take-suc, take-suc-set}
use Rattle.lists.specs.Lists.{front}
use Rattle.lists.specs.Sets.{keep}
use Rattle.words.specs.Part.{part}
use Rattle.words.proofs.PartLaws.{part_length, part_at}
use Rattle.tabled.proofs.Kept.{word_kept}
use Rattle.owned.specs.Marks.{Marked, with_mark}

pub record Written (p : List ℕ) (len : ℕ) (list list₀ : List ℕ) : Type 0 where
  pub same : length list ≡ length list₀
  pub size : len ≡ length p
  pub done : take len list ≡ p
  pub rest : drop len list ≡ drop len list₀

drop_more : (k : ℕ) (a b : List ℕ) → drop k a ≡ drop k b → drop (suc k) a ≡ drop (suc k) b
drop_more k a b e = tail k a ∙ ap (drop 1) e ∙ sym (tail k b)
  where
    tail : (k : ℕ) (l : List ℕ) → drop (suc k) l ≡ drop 1 (drop k l)
    tail zero l = refl
    tail (suc k) [] = refl
    tail (suc k) (x ∷ l) = tail k l

drop-set : (k x : ℕ) (l : List ℕ) → drop (suc k) (set l k x) ≡ drop (suc k) l
drop-set k x [] = refl
drop-set zero x (y ∷ l) = refl
drop-set (suc k) x (y ∷ l) = drop-set k x l

module _ (w : List ℕ) (b s mark : ℕ) where
  pub written_start : (list : List ℕ) → Written (with_mark w b s mark 0) 0 list list
  unfolding with_mark
  written_start list = record { same = refl; size = refl; done = refl; rest = refl }

  pub written_next : (i len : ℕ) (list list₀ list' : List ℕ) (len' : ℕ) → Written (with_mark w b s mark i) len list list₀ → len < length list
      → list' ≡ cond (eqb (get_or w (s + i) 0) mark) (set list len (get_or w (b + i) 0)) list → len' ≡ cond (eqb (get_or w (s + i) 0) mark) (len + 1) len
      → Written (with_mark w b s mark (i + 1)) len' list' list₀ × (len' ≤ len + 1)
  unfolding with_mark
  written_next i len list list₀ list' len' v room p q = rw (add-one i, p, q) (go (eqb (get_or w (s + i) 0) mark))
    where
      go : (t : Bool) → Written (cond t (with_mark w b s mark i ++ (get_or w (b + i) 0 ∷ [])) (with_mark w b s mark i)) (cond t (len + 1) len) (cond t (set list len (get_or w (b + i) 0)) list) list₀
          × (cond t (len + 1) len ≤ len + 1)
      go true = (
        rw (add-one len) (record {
          same = length-set list len (get_or w (b + i) 0) ∙ v.same;
          size = omega (arith, v.size, length-append (with_mark w b s mark i) (get_or w (b + i) 0 ∷ []));
          done = take-suc-set list len (get_or w (b + i) 0) room ∙ ap (λ (z : List ℕ). z ++ (get_or w (b + i) 0 ∷ [])) v.done;
          rest = drop-set len (get_or w (b + i) 0) list ∙ drop_more len list list₀ v.rest;
        }),
        omega arith,
      )
      go false = (v, omega arith)

  pub written-end : (k i len : ℕ) (list list₀ : List ℕ) → Written (with_mark w b s mark i) len list list₀ → i ≤ k → k ≤ i → (list ≡ front (with_mark w b s mark k) list₀) × (len ≡ length (with_mark w b s mark k))
  written-end k i len list list₀ v h l =
      let e : i ≡ k = omega arith in
      let u : Written (with_mark w b s mark k) len list list₀ = rw e at v in
      (sym (take-append-drop len list) ∙ rw (u.done, u.rest) (ap (λ (j : ℕ). with_mark w b s mark k ++ drop j list₀) u.size), u.size)

keep_snoc : (t : ℕ → Bool) (l : List ℕ) (x : ℕ) → keep t (l ++ (x ∷ [])) ≡ cond (t x) (keep t l ++ (x ∷ [])) (keep t l)
unfolding keep
keep_snoc t [] x = refl
keep_snoc t (y ∷ l) x = rw (keep_snoc t l x) (go (t y) (t x))
  where
    go : (p q : Bool) → cond p (y ∷ cond q (keep t l ++ (x ∷ [])) (keep t l)) (cond q (keep t l ++ (x ∷ [])) (keep t l)) ≡ cond q (cond p (y ∷ keep t l) (keep t l) ++ (x ∷ [])) (cond p (y ∷ keep t l) (keep t l))
    go true true = refl
    go true false = refl
    go false true = refl
    go false false = refl

-- the ids that have a mark are those of which f says so
module _ (f : ℕ → ℕ) (b s k : ℕ) (w w' : List ℕ) (m : Marked f b s k w w') (apart : b + k ≤ s) (room : s + k ≤ length w) (mark : ℕ) where
  with-from : (i : ℕ) → i ≤ k → with_mark w' b s mark i ≡ keep (λ x. eqb (f x) mark) (take i (part w b k))
  unfolding with_mark keep
  with-from zero h = refl
  with-from (suc i) h =
      let l : List ℕ = part w b k in
      let e : get_or w' (b + i) 0 ≡ get_or w (b + i) 0 = word_kept w' w s m.front (b + i) (omega arith) in
      let g : get_or l i 0 ≡ get_or w (b + i) 0 = part_at w b k i (omega arith) in
      let n : i < length l = rw (part_length w b k (omega arith)) (omega arith) in
      rw (take-suc l i 0 n, keep_snoc (λ x. eqb (f x) mark) (take i l) (get_or l i 0), g, m.each i (omega arith), e, with-from i (omega arith)) refl

  pub with-keep : with_mark w' b s mark k ≡ keep (λ x. eqb (f x) mark) (part w b k)
  with-keep = with-from k (omega arith) ∙ ap (keep (λ x. eqb (f x) mark)) (take_all k (part w b k) (rw (part_length w b k (omega arith)) (omega arith)))
