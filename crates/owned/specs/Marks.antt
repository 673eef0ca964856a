-- Marks beside a list of ids in the work area: k ids from word b on, and a mark for each from word s on.
-- Assumes nothing.
use Rattle.std.specs.Prelude.{ℕ, zero, suc, ◌+◌, ◌*◌, ◌<◌, ◌≡◌, Bool, false, cond, ◌&&◌, List, [], ◌∷◌, ◌++◌, eqb, ltb, get_or, take}
use Rattle.lists.specs.Lists.{has}
use Rattle.words.specs.Table.{ids, where_is, Found, At, Nothing}
use Rattle.rules.specs.Tables.{held_width, parents_at}

-- each id x has the mark f x; the words before the marks stayed
pub record Marked (f : ℕ → ℕ) (b s k : ℕ) (w w' : List ℕ) : Type 0 where
  pub front : take s w' ≡ take s w
  pub each : (p : ℕ) → p < k → get_or w' (s + p) 0 ≡ f (get_or w (b + p) 0)

-- the mark of an id where a list has it: `from` becomes `to`
abbrev pub raise : List ℕ → ℕ → ℕ → ℕ → ℕ → ℕ
raise list from to x m = cond (has x list && eqb m from) to m

-- the same of all marks
pub record Raised (list : List ℕ) (from to b s k : ℕ) (w w' : List ℕ) : Type 0 where
  pub front : take s w' ≡ take s w
  pub each : (p : ℕ) → p < k → get_or w' (s + p) 0 ≡ raise list from to (get_or w (b + p) 0) (get_or w (s + p) 0)

-- 0 never owned here, 1 owned and not completed, 2 owned and completed
abbrev pub status_of : List ℕ → List ℕ → ℕ → ℕ
status_of history completed x = cond (has x history) (cond (has x completed) 2 1) 0

-- a parentless row created after epoch 0
abbrev pub root_row : List ℕ → ℕ → Bool
root_row rows r = eqb (parents_at rows (r * held_width)) 0 && ltb 0 (get_or rows (r * held_width + 4) 0)

abbrev pub root_found : List ℕ → Found → Bool
root_found rows Nothing = false
root_found rows (At r) = root_row rows r

unfoldable pub root_of : List ℕ → ℕ → ℕ → Bool
root_of rows h x = root_found rows (where_is (ids rows held_width h) x)

-- of the first i ids, those with that mark
unfoldable pub with_mark : List ℕ → ℕ → ℕ → ℕ → ℕ → List ℕ
with_mark w b s mark zero = []
with_mark w b s mark (suc i) = cond (eqb (get_or w (s + i) 0) mark) (with_mark w b s mark i ++ (get_or w (b + i) 0 ∷ [])) (with_mark w b s mark i)
