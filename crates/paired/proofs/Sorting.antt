-- Pairs sorted as rows of three words are pairs sorted as pairs, and two words of each row are the words of the pairs.
--     sorted-through     two orders that agree through a map sort alike
--     copied-start, copied_next, copied-end     the loop that writes the pairs out
--     written_count, written_is     placed, sorted, written out
-- Assumes nothing.
use Prim.Native.Nat.{ℕ, ◌+◌, ◌*◌, ◌≤◌, ◌<◌}
use native.Mathlib.Numerals.{add-one}
use native.Mathlib.Omega.{arith}
use mathlib.Core.Path.{◌≡◌, refl, sym, ap, ◌∙◌}
use mathlib.Core.Bool.{Bool, true, false, cond}
use mathlib.Core.List.{List, [], ◌∷◌, ◌++◌, map, append_assoc}
use borrow.Author.Tests.{ltb-true, ltb-false, le-leb, lt-leb}
use lib.Dec.{ltb, leb}
use lib.ListN.{length, get_or, take, drop, set, length-append, length-set}
use lib.Seq.{take-suc, take_all, take_at, length-take-le}
use Rattle.lists.specs.Lists.{front}
use Rattle.lists.specs.Sort.{Row, insert, sorted, le3}
use Rattle.lists.proofs.Sums.{sum-sorted}
use Rattle.words.proofs.PartLaws.{grow}
use Rattle.sorts.specs.Rows.{rows}
use Rattle.sorts.specs.Heap.{row0}
use Rattle.sorts.proofs.RowLaws.{rows_at, rows-length, rows_take}
use Rattle.rules.specs.Delta.{Pair, pair_le, pair_words}
use Rattle.paired.specs.Pairs.{row_of, Placed, two_words}

-- ---- two orders

module _ {A B : Type 0} (f : A → B) (leA : A → A → Bool) (leB : B → B → Bool) (agree : (x y : A) → leB (f x) (f y) ≡ leA x y) where
  insert-through : (x : A) (l : List A) → insert leB (f x) (map f l) ≡ map f (insert leA x l)
  insert-through x [] = refl
  insert-through x (y ∷ l) = rw (agree x y) (go (insert-through x l) (leA x y))
    where
      go : insert leB (f x) (map f l) ≡ map f (insert leA x l) → (b : Bool) → cond b (f x ∷ f y ∷ map f l) (f y ∷ insert leB (f x) (map f l)) ≡ map f (cond b (x ∷ y ∷ l) (y ∷ insert leA x l))
      go ih true = refl
      go ih false = ap (λ (t : List B). f y ∷ t) ih

  pub sorted-through : (l : List A) → sorted leB (map f l) ≡ map f (sorted leA l)
  sorted-through [] = refl
  sorted-through (x ∷ l) = ap (insert leB (f x)) (sorted-through l) ∙ insert-through x (sorted leA l)

-- the third word, which is 0, decides nothing
last : (a b : ℕ) → cond (ltb a b) true (cond (ltb b a) false (leb 0 0)) ≡ leb a b
last a b = go (ltb a b) refl (ltb b a) refl
  where
    go : (s : Bool) → ltb a b ≡ s → (t : Bool) → ltb b a ≡ t → cond s true (cond t false (leb 0 0)) ≡ leb a b
    go true p t q = sym (le-leb a b (omega (arith, ltb-true a b p)))
    go false p true q = sym (lt-leb a b (ltb-true b a q))
    go false p false q = sym (le-leb a b (omega (arith, ltb-false b a q)))

pairs-agree : (x y : Pair) → le3 (row_of x) (row_of y) ≡ pair_le x y
unfolding le3
pairs-agree x y = ap (λ (b : Bool). cond (ltb x.0 y.0) true (cond (ltb y.0 x.0) false b)) (last x.1 y.1)

-- ---- two words of each row

two-append : (k l : List Row) → two_words (k ++ l) ≡ two_words k ++ two_words l
unfolding two_words
two-append [] l = refl
two-append (x ∷ k) l = ap (λ (t : List ℕ). x.0 ∷ x.1 ∷ t) (two-append k l)

two-pairs : (ps : List Pair) → two_words (map row_of ps) ≡ pair_words ps
unfolding two_words
two-pairs [] = refl
two-pairs (p ∷ ps) = ap (λ (t : List ℕ). p.0 ∷ p.1 ∷ t) (two-pairs ps)

two-length : (l : List Row) → length (two_words l) ≡ 2 * length l
unfolding two_words
two-length [] = refl
two-length (x ∷ l) = omega (arith, two-length l)

-- what stands when i of the rows are written out
pub record Copied (out₀ out pairs : List ℕ) (i : ℕ) : Type 0 where
  pub size : length out ≡ length out₀
  pub long : length (two_words (take i (rows pairs))) ≡ 2 * i
  pub is : out ≡ front (two_words (take i (rows pairs))) out₀

pub copied-start : (out pairs : List ℕ) → Copied out out pairs 0
unfolding two_words
copied-start out pairs = record { size = refl; long = refl; is = refl }

-- two words behind what stands at the front
grow-two : (xs out₀ out : List ℕ) (m x y : ℕ) → length xs ≡ m → m + 2 ≤ length out₀ → out ≡ front xs out₀ → set (set out m x) (m + 1) y ≡ front (xs ++ (x ∷ y ∷ [])) out₀
grow-two xs out₀ out m x y len h e =
    let z : length (xs ++ (x ∷ [])) ≡ m + 1 = rw (length-append xs) (omega arith) in
    let all : length (xs ++ (x ∷ y ∷ [])) ≡ m + 1 + 1 = rw (length-append xs) (omega arith) in
    let one : set out m x ≡ (xs ++ (x ∷ [])) ++ drop (m + 1) out₀ = rw (e, len) (grow 0 xs out₀ m x len (omega arith)) in
    let two : set ((xs ++ (x ∷ [])) ++ drop (m + 1) out₀) (m + 1) y ≡ ((xs ++ (x ∷ [])) ++ (y ∷ [])) ++ drop (m + 1 + 1) out₀ = grow 0 (xs ++ (x ∷ [])) out₀ (m + 1) y z (omega arith) in
    ap (λ (l : List ℕ). set l (m + 1) y) one ∙ two ∙ rw (all, append_assoc xs (x ∷ []) (y ∷ [])) refl

module _ (out₀ out pairs : List ℕ) (k i : ℕ) (len : length pairs ≡ 3 * k) (p : Copied out₀ out pairs i) where
  pub copied_next : 2 * k ≤ length out₀ → i < k → (out' : List ℕ)
      → out' ≡ set (set out (2 * i) (get_or pairs (3 * i) 0)) (2 * i + 1) (get_or pairs (3 * i + 1) 0) → Copied out₀ out' pairs (i + 1)
  unfolding two_words
  copied_next room below out' e =
      let x : ℕ = get_or pairs (3 * i) 0 in
      let y : ℕ = get_or pairs (3 * i + 1) 0 in
      let more : take (i + 1) (rows pairs) ≡ take i (rows pairs) ++ ((x, y, get_or pairs (3 * i + 2) 0) ∷ []) =
      rw (add-one i, take-suc (rows pairs) i row0 (rw (rows-length pairs k len) below), rows_at pairs i (omega arith)) refl in
      let two : two_words (take (i + 1) (rows pairs)) ≡ two_words (take i (rows pairs)) ++ (x ∷ y ∷ []) =
      ap two_words more ∙ two-append (take i (rows pairs)) ((x, y, get_or pairs (3 * i + 2) 0) ∷ []) in
      record {
        size = ap length e ∙ simp length-set p.size;
        long = rw (two, length-append (two_words (take i (rows pairs)))) (omega (arith, p.long));
        is = e ∙ rw two (grow-two (two_words (take i (rows pairs))) out₀ out (2 * i) x y p.long (omega arith) p.is);
      }

  pub copied-end : k ≤ i → out ≡ front (two_words (rows pairs)) out₀
  copied-end h = p.is ∙ ap (λ (l : List Row). front (two_words l) out₀) (take_all i (rows pairs) (rw (rows-length pairs k len) h))

-- ---- placed, sorted, written out

module _ (w₀ w : List ℕ) (e k : ℕ) (ps : List Pair) (p : Placed w₀ w 0 k ps) (few : k ≤ e) (fits : 3 * e ≤ length w₀) where
  pub written_count : k ≡ length (sorted pair_le ps)
  written_count = omega (arith, p.count, sum-sorted pair_le length (λ (s : Pair). 1) (λ s l. omega arith) ps)

  lent : rows (take (3 * k) w) ≡ map row_of ps
  lent = rows_take k w (omega (arith, p.size)) ∙ p.front

  pub written_is : (ys out₀ out : List ℕ) → length ys ≡ length (take (3 * k) w) → rows ys ≡ sorted le3 (rows (take (3 * k) w))
      → out ≡ front (two_words (rows (take (3 * k) (ys ++ drop (3 * k) w)))) out₀ → out ≡ front (pair_words (sorted pair_le ps)) out₀
  written_is ys out₀ out len said e =
      let long : length ys ≡ 3 * k = len ∙ length-take-le (3 * k) w (omega (arith, p.size)) in
      let is : rows ys ≡ map row_of (sorted pair_le ps) = said ∙ ap (sorted le3) lent ∙ sorted-through row_of pair_le le3 pairs-agree ps in
      e ∙ ap (λ (l : List ℕ). front (two_words (rows l)) out₀) (take_at ys (drop (3 * k) w) (3 * k) long)
      ∙ ap (λ (l : List ℕ). front l out₀) (ap two_words is ∙ two-pairs (sorted pair_le ps))
