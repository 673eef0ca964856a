-- `words::look` meets its contract: each need is arithmetic, a law that is imported, or what a callee promised.
-- those before lo are below x, those from hi on above it
use mathlib.Core.List.{List}
use Prim.Native.Nat.{ℕ, ◌-◌, ◌≤◌, ◌<◌}
use Rattle.words.specs.Table.{ids}
use lib.ListN.{get_or}
use Rattle.words.proofs.look.Given as goal

pub record Bracket (l : List ℕ) (x n lo hi : ℕ) : Type 0 where
  pub lo-le : lo ≤ hi
  pub hi-le : hi ≤ n
  pub below : (k : ℕ) → k < lo → get_or l k 0 < x
  pub above : (k : ℕ) → hi ≤ k → k < n → x < get_or l k 0

abbrev pub invariant-loop-lo : goal.invariant-loop-lo
invariant-loop-lo l = Bracket (ids l.rows l.width l.count) l.id l.count l.lo l.hi × (l.lo < l.hi → (l.lo ≤ l.at) × (l.at < l.hi))

abbrev pub decreases-loop-lo : goal.decreases-loop-lo
decreases-loop-lo l = l.hi - l.lo
