-- A list written item by item: what is written, and what the rest of the field puts behind it, is what the whole field puts there.
-- Assumes nothing.
use Rattle.std.specs.Prelude.{Option, Some, None}
use mathlib.Core.Path.{◌≡◌, refl, sym, ap, ◌∙◌}
use mathlib.Core.List.{List, [], ◌∷◌, ◌++◌, append_assoc, append-nil}
use Prim.Native.Nat.{ℕ, ◌+◌, ◌-◌, ◌<◌, ◌≤◌}
use native.Mathlib.Numerals.{add-one}
use native.Mathlib.Omega.{arith}
use lib.ListN.{length, take, drop, set, length-set, take-append-drop}
use lib.Seq.{length-take-le, take-suc-set, drop-set-lt, drop-drop}
use Rattle.reading.specs.Numbers.{number_of}
use Rattle.reading.specs.Fields.{up_to, split}
use Rattle.reading.specs.Lists.{filled, front}
use Rattle.reading.proofs.Parts.{part-first, to-fits, more_parts, last-part, roomy}

closed : (w₀ w F : List ℕ) (n : ℕ) → n ≤ length w → drop n w ≡ drop n w₀ → take n w ≡ F → w ≡ filled w₀ F
closed w₀ w F n h d t =
    let m : length F ≡ n = ap length (sym t) ∙ length-take-le n w h in
    sym (take-append-drop n w) ∙ rw (t, d, m) refl

drop_more : (w w₀ : List ℕ) (n : ℕ) → drop n w ≡ drop n w₀ → drop (n + 1) w ≡ drop (n + 1) w₀
drop_more w w₀ n d = sym (drop-drop 1 n w) ∙ ap (drop 1) d ∙ drop-drop 1 n w₀

pub still_drops : (w w₀ : List ℕ) (n v : ℕ) → drop n w ≡ drop n w₀ → drop (n + 1) (set w n v) ≡ drop (n + 1) w₀
still_drops w w₀ n v d = drop-set-lt (n + 1) w n v (omega arith) ∙ drop_more w w₀ n d

module _ (s : List ℕ) (from to sep : ℕ) (l : from ≤ length s) (e : to ≡ from + up_to sep (drop from s)) (r : Option ℕ)
    (k : r ≡ number_of (take (to - from) (drop from s))) (w₀ w : List ℕ) (n : ℕ) (h : n < length w) (F : List ℕ)
    (i : take n w ++ front (length w - n) (split sep (drop from s)) ≡ F) where
  pub stopped : drop n w ≡ drop n w₀ → r ≡ None → w ≡ filled w₀ F
  unfolding front
  stopped d q =
      let t : take n w ++ [] ≡ F = rw (roomy (length w) n h, part-first s from to sep e, ← k, q) at i in
      closed w₀ w F n (omega arith) d (sym (append-nil (take n w)) ∙ t)

  grown : (v : ℕ) (more : List ℕ) → front (length w - n) (split sep (drop from s)) ≡ v ∷ more → take (n + 1) (set w n v) ++ more ≡ F
  grown v more q =
      rw (add-one, take-suc-set w n v h) (append_assoc (take n w) (v ∷ []) more ∙ ap (λ (t : List ℕ). take n w ++ t) (sym q) ∙ i)

  pub last_written : (v : ℕ) → drop n w ≡ drop n w₀ → r ≡ Some v → to ≡ length s → set w n v ≡ filled w₀ F
  unfolding front
  last_written v d q z =
      let f : front (length w - n) (split sep (drop from s)) ≡ v ∷ [] = rw (roomy (length w) n h, last-part s from to sep e (omega arith) l, ← k, q) refl in
      closed w₀ (set w n v) F (n + 1) (simp length-set (omega arith)) (still_drops w w₀ n v d) (sym (append-nil (take (n + 1) (set w n v))) ∙ grown v [] f)

  pub next-written : (v : ℕ) → r ≡ Some v → (to ≡ length s → ⊥) → take (n + 1) (set w n v) ++ front (length (set w n v) - (n + 1)) (split sep (drop (to + 1) s)) ≡ F
  unfolding front
  next-written v q z =
      rw (length-set w n v)
      (grown v (front (length w - (n + 1)) (split sep (drop (to + 1) s)))
      (rw (roomy (length w) n h, more_parts s from to sep e (omega (arith, to-fits s from to sep e l)), ← k, q) refl))

-- the words are full
pub full : (s : List ℕ) (from sep : ℕ) (w₀ w F : List ℕ) (n : ℕ) → n ≤ length w → length w ≤ n → drop n w ≡ drop n w₀
    → take n w ++ front (length w - n) (split sep (drop from s)) ≡ F → w ≡ filled w₀ F
unfolding front
full s from sep w₀ w F n a b d i =
    let z : length w - n ≡ 0 = omega arith in
    let t : take n w ++ [] ≡ F = rw (z, part-first s from (from + up_to sep (drop from s)) sep refl) at i in
    closed w₀ w F n a d (sym (append-nil (take n w)) ∙ t)

pub unwritten : (w : List ℕ) (is : List (List ℕ)) → take 0 w ++ front (length w - 0) is ≡ front (length w) is
unwritten w is = let z : length w - 0 ≡ length w = omega arith in rw z refl
