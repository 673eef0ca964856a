-- A tournament tree over n slots, in 2 * n words.
-- Assumes nothing.
use Rattle.std.specs.Prelude.{◌≡◌, List, [], ◌∷◌, ℕ, ◌+◌, ◌*◌, ◌<◌, ◌≤◌, min, length, get_or}

-- word k is the lesser of its two children
abbrev pub Lesser : List ℕ → ℕ → Type 0
Lesser t k = get_or t k 0 ≡ min (get_or t (2 * k) 0) (get_or t (2 * k + 1) 0)

-- every inner word is the lesser of its two children; n slots stand from word n on
pub record Tree (n : ℕ) (t : List ℕ) : Type 0 where
  pub size : length t ≡ 2 * n
  pub node : (k : ℕ) → 1 ≤ k → k < n → Lesser t k

-- the same of every inner word but j
pub record TreeBut (n : ℕ) (t : List ℕ) (j : ℕ) : Type 0 where
  pub size : length t ≡ 2 * n
  pub node : (k : ℕ) → 1 ≤ k → k < n → (k ≡ j → ⊥) → Lesser t k

-- no element is above n
abbrev pub Low : ℕ → List ℕ → Type 0
Low n l = (i : ℕ) → get_or l i 0 ≤ n

-- the least element, or n where there is none below n
unfoldable pub least : List ℕ → ℕ → ℕ
least [] n = n
least (x ∷ xs) n = min x (least xs n)
