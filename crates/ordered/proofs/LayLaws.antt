-- Loops that lay words from `base` on:
--     fill-turn, fill-all     one word a turn, each made from a word of a list
--     fill-after     the words behind them
--     offsets-begin, offsets-next, offsets-end     the offsets, two a turn
-- Assumes nothing.
use mathlib.Core.List.{List, [], append_assoc, map, map-append, ◌++◌, ◌∷◌}
use mathlib.Core.Path.{ap, refl, sym, ◌∙◌, ◌≡◌}
use Prim.Native.Nat.{ℕ, ◌*◌, ◌+◌, ◌<◌, ◌≤◌}
use native.Mathlib.Numerals.{add-one}
use native.Mathlib.Omega.{arith}
use lib.ListN.{get_or, length, length-append, length-map, set, take}
use lib.Seq.{length-take-le, take_all, take-suc}
use Rattle.ordered.specs.Numbers.{offsets, offsets_at, offsets_below}
use Rattle.rules.specs.Tables.{held_width, parents_at, start_of}
use Rattle.words.specs.Part.{put}
use Rattle.ordered.proofs.GraphLaws.{length-below}
use Rattle.words.proofs.PartLaws.{get_after, put-grow, put-none}

-- ---- one word a turn

module _ (f : ℕ → ℕ) (l w₀ : List ℕ) (base : ℕ) where
  laid-length : (k : ℕ) → k ≤ length l → length (map f (take k l)) ≡ k
  laid-length k h = length-map (take k l) f ∙ length-take-le k l h

  map_more : (k : ℕ) → k < length l → map f (take k l) ++ (f (get_or l k 0) ∷ []) ≡ map f (take (k + 1) l)
  map_more k h = rw (add-one, take-suc l k 0 h) (sym (map-append f (take k l) (get_or l k 0 ∷ [])))

  pub fill-turn : (w : List ℕ) (k v : ℕ) → k < length l → base + k < length w₀ → w ≡ put w₀ base k (map f (take k l)) → v ≡ f (get_or l k 0)
      → set w (base + k) v ≡ put w₀ base (k + 1) (map f (take (k + 1) l))
  fill-turn w k v h q e is =
      let g : set (put w₀ base k (map f (take k l))) (base + k) v ≡ put w₀ base (k + 1) (map f (take k l) ++ (v ∷ [])) = put-grow w₀ base k (map f (take k l)) v (laid-length k (omega arith)) q in
      ap (λ (t : List ℕ). set t (base + k) v) e ∙ g ∙ ap (λ (x : ℕ). put w₀ base (k + 1) (map f (take k l) ++ (x ∷ []))) is ∙ ap (put w₀ base (k + 1)) (map_more k h)

  pub fill-all : (w : List ℕ) (k m : ℕ) → k ≡ m → length l ≡ m → w ≡ put w₀ base k (map f (take k l)) → w ≡ put w₀ base m (map f l)
  fill-all w k m e h is = let all : take m l ≡ l = take_all m l (omega arith) in rw (e, all) at is

  -- words behind what was laid
  module _ (w : List ℕ) (k : ℕ) (h : k ≤ length l) (q : base + k ≤ length w₀) (e : w ≡ put w₀ base k (map f (take k l))) where
    pub fill-after : (j : ℕ) → base + k ≤ j → get_or w j 0 ≡ get_or w₀ j 0
    fill-after j b = rw e (get_after w₀ base k (map f (take k l)) (laid-length k h) q j b)

-- ---- two offsets a turn

module _ (rows w₀ : List ℕ) (base : ℕ) where
  pub offsets-begin : w₀ ≡ put w₀ base (2 * 0) (offsets_below rows 0)
  unfolding offsets_below
  offsets-begin = put-none w₀ base

  module _ (w : List ℕ) (i : ℕ) (e : w ≡ put w₀ base (2 * i) (offsets_below rows i)) where
    pub offsets-next : (sum p : ℕ) → base + (2 * i + 2) ≤ length w₀ → sum ≡ start_of held_width rows i → p ≡ parents_at rows (i * held_width)
        → set (set w (base + 2 * i) sum) (base + (2 * i + 1)) (sum + p) ≡ put w₀ base (2 * (i + 1)) (offsets_below rows (i + 1))
    unfolding offsets_below
    offsets-next sum p h s q =
        let l : length (offsets_below rows i) ≡ 2 * i = length-below rows i in
        let a : set (put w₀ base (2 * i) (offsets_below rows i)) (base + 2 * i) sum ≡ put w₀ base (2 * i + 1) (offsets_below rows i ++ (sum ∷ [])) = put-grow w₀ base (2 * i) (offsets_below rows i) sum l (omega arith) in
        let l₂ : length (offsets_below rows i ++ (sum ∷ [])) ≡ 2 * i + 1 = omega (arith, length-append (offsets_below rows i) (sum ∷ [])) in
        let b : set (put w₀ base (2 * i + 1) (offsets_below rows i ++ (sum ∷ []))) (base + (2 * i + 1)) (sum + p) ≡ put w₀ base (2 * i + 1 + 1) ((offsets_below rows i ++ (sum ∷ [])) ++ ((sum + p) ∷ [])) =
        put-grow w₀ base (2 * i + 1) (offsets_below rows i ++ (sum ∷ [])) (sum + p) l₂ (omega arith) in
        let m : 2 * i + 1 + 1 ≡ 2 * (i + 1) = omega arith in
        let ys : (offsets_below rows i ++ (sum ∷ [])) ++ ((sum + p) ∷ []) ≡ offsets_below rows i ++ offsets_at rows i = append_assoc (offsets_below rows i) (sum ∷ []) ((sum + p) ∷ []) ∙ rw (s, q) refl in
        ap (λ (x : List ℕ). set (set x (base + 2 * i) sum) (base + (2 * i + 1)) (sum + p)) e
        ∙ ap (λ (x : List ℕ). set x (base + (2 * i + 1)) (sum + p)) a ∙ b
        ∙ ap (λ (k : ℕ). put w₀ base k ((offsets_below rows i ++ (sum ∷ [])) ++ ((sum + p) ∷ []))) m ∙ rw (add-one i, ys) refl

    pub offsets-end : (n sum : ℕ) → i ≡ n → base + (2 * n + 1) ≤ length w₀ → sum ≡ start_of held_width rows i → set w (base + 2 * n) sum ≡ put w₀ base (2 * n + 1) (offsets rows n)
    offsets-end n sum en h s =
        let l : length (offsets_below rows n) ≡ 2 * n = length-below rows n in
        let e₂ : w ≡ put w₀ base (2 * n) (offsets_below rows n) = rw en at e in
        let s₂ : sum ≡ start_of held_width rows n = rw en at s in
        ap (λ (x : List ℕ). set x (base + 2 * n) sum) e₂ ∙ put-grow w₀ base (2 * n) (offsets_below rows n) sum l (omega arith) ∙ rw s₂ refl
