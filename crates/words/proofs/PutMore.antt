-- More laws of `put`: ys put behind xs are one part (put-join), and zs put inside xs are put into xs (put-inner).
-- By the laws of PartLaws, with no induction. Assumes nothing.
use mathlib.Core.Path.{◌≡◌, refl, sym, ap, ◌∙◌}
use mathlib.Core.List.{List, ◌++◌, append_assoc}
use Prim.Native.Nat.{ℕ, ◌+◌, ◌≤◌}
use native.Mathlib.Omega.{arith}
use lib.ListN.{length, take, drop}
use lib.Seq.{take-add, drop-drop}
use Rattle.words.specs.Part.{put}
use Rattle.words.proofs.PartLaws.{part-put, take-before, drop-after, length-put, put-put, put_in}

module _ (w : List ℕ) (a n : ℕ) (xs : List ℕ) (l : length xs ≡ n) (h : a + n ≤ length w) where
  pub put-join : (m : ℕ) (ys : List ℕ) → put (put w a n xs) (a + n) m ys ≡ put w a (n + m) (xs ++ ys)
  put-join m ys =
      let front : take (a + n) (put w a n xs) ≡ take a w ++ xs =
      take-add a n (put w a n xs) ∙ rw (take-before w a n xs l h a (omega arith), part-put w a n xs l h) refl in
      let rest : drop m (drop (a + n) (put w a n xs)) ≡ drop (n + m) (drop a w) =
      ap (drop m) (drop-after w a n xs l h (a + n) (omega arith) ∙ sym (drop-drop n a w)) ∙ drop-drop m n (drop a w) in
      ap (λ (t : List ℕ). t ++ (ys ++ drop m (drop (a + n) (put w a n xs)))) front
      ∙ ap (λ (t : List ℕ). (take a w ++ xs) ++ (ys ++ t)) rest
      ∙ simp append_assoc

  pub put-inner : (i k : ℕ) (zs : List ℕ) → i + k ≤ n → put (put w a n xs) (a + i) k zs ≡ put w a n (put xs i k zs)
  put-inner i k zs q =
      sym (put_in (put w a n xs) a n i k zs q (rw (length-put w a n xs l h) h))
      ∙ rw (part-put w a n xs l h) (put-put w a n xs l h (put xs i k zs))
