-- Parts of a list of words, beside the laws of `words`:
--     set-in, set_before, set_after     a part after a store inside, before and behind it
--     kept_at, drop-further     words that were kept, and those behind them
--     slice_at, far-slice     a stretch of a part that was kept, read in the whole
-- Assumes nothing.
use mathlib.Core.Path.{◌≡◌, sym, ap, ◌∙◌}
use mathlib.Core.List.{List}
use Prim.Native.Nat.{ℕ, ◌+◌, ◌-◌, ◌<◌, ◌≤◌}
use native.Mathlib.Omega.{arith}
use lib.ListN.{length, get_or, set, take, drop}
use lib.Seq.{slice, length-slice, take-set-le, take-set-lt, drop-set-lt, drop-set-add, get_or-take, get_or-drop, drop-drop, ext_get_or}
use Rattle.words.specs.Part.{part}
use Rattle.words.proofs.PartLaws.{part_length, part_at}

-- a store inside, before, and after the part
pub set-in : (w : List ℕ) (a k : ℕ) (j i v : ℕ) → j ≡ a + i → i < k → part (set w j v) a k ≡ set (part w a k) i v
set-in w a k j i v e h = rw (e, drop-set-add a w i v) (take-set-lt k (drop a w) i v h)

pub set_before : (w : List ℕ) (a k : ℕ) (j v : ℕ) → j < a → part (set w j v) a k ≡ part w a k
set_before w a k j v h = ap (take k) (drop-set-lt a w j v h)

pub set_after : (w : List ℕ) (a k : ℕ) (j v : ℕ) → a + k ≤ j → part (set w j v) a k ≡ part w a k
set_after w a k j v h =
    let e : j ≡ a + (j - a) = omega arith in
    rw (e, drop-set-add a w (j - a) v) (take-set-le k (drop a w) (j - a) v (omega arith))

-- words that were kept
pub kept_at : (m : ℕ) (w w₀ : List ℕ) (j : ℕ) → drop m w ≡ drop m w₀ → m ≤ j → get_or w j 0 ≡ get_or w₀ j 0
kept_at m w w₀ j e h =
    let i : m + (j - m) ≡ j = omega arith in
    let a : get_or w (m + (j - m)) 0 ≡ get_or w j 0 = ap (λ (x : ℕ). get_or w x 0) i in
    let b : get_or w₀ (m + (j - m)) 0 ≡ get_or w₀ j 0 = ap (λ (x : ℕ). get_or w₀ x 0) i in
    sym a ∙ sym (get_or-drop m w (j - m) 0) ∙ ap (λ (l : List ℕ). get_or l (j - m) 0) e ∙ get_or-drop m w₀ (j - m) 0 ∙ b

-- words from a on are kept where those from b on are, b ≤ a
pub drop-further : (a b : ℕ) (w w₀ : List ℕ) → b ≤ a → drop b w ≡ drop b w₀ → drop a w ≡ drop a w₀
drop-further a b w w₀ h e =
    let i : b + (a - b) ≡ a = omega arith in
    ap (λ (j : ℕ). drop j w) (sym i) ∙ sym (drop-drop (a - b) b w) ∙ ap (drop (a - b)) e ∙ drop-drop (a - b) b w₀ ∙ ap (λ (j : ℕ). drop j w₀) i

-- a stretch of a part that was kept, read in the whole
pub slice_at : (f t : ℕ) (l : List ℕ) (i : ℕ) → f + i < t → get_or (slice f t l) i 0 ≡ get_or l (f + i) 0
slice_at f t l i h = get_or-drop f (take t l) i 0 ∙ get_or-take t l (f + i) 0 h

pub far-slice : (k a m f t : ℕ) (w w₀ : List ℕ) → length w ≡ length w₀ → drop k w ≡ drop k w₀ → k ≤ a → f ≤ t → t ≤ m → a + m ≤ length w₀ → slice (a + f) (a + t) w ≡ slice f t (part w₀ a m)
far-slice k a m f t w w₀ el e ka ft tm am =
    let x : length (slice (a + f) (a + t) w) ≡ a + t - (a + f) = length-slice (a + f) (a + t) w (omega arith) in
    let y : length (slice f t (part w₀ a m)) ≡ t - f = length-slice f t (part w₀ a m) (omega (arith, part_length w₀ a m am)) in
    ext_get_or 0 (slice (a + f) (a + t) w) (slice f t (part w₀ a m)) (omega arith) (λ i q. at i (omega arith))
  where
    at : (i : ℕ) → f + i < t → get_or (slice (a + f) (a + t) w) i 0 ≡ get_or (slice f t (part w₀ a m)) i 0
    at i q =
        let j : a + f + i ≡ a + (f + i) = omega arith in
        slice_at (a + f) (a + t) w i (omega arith) ∙ kept_at k w w₀ (a + f + i) e (omega arith) ∙ ap (λ (z : ℕ). get_or w₀ z 0) j
        ∙ sym (slice_at f t (part w₀ a m) i q ∙ part_at w₀ a m (f + i) (omega arith))
