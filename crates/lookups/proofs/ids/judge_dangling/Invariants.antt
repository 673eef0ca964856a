-- `judge_dangling` meets its contract: the rule of all ids is the rule of those to come.
use Rattle.rules.specs.Rows.{dangling_from}
use Rattle.words.specs.Table.{ids}
use lib.ListN.{drop}
use mathlib.Core.Path.{◌≡◌}
use Prim.Native.Nat.{◌-◌}
use Rattle.lookups.proofs.ids.judge_dangling.Given as goal

abbrev pub invariant-loop-p : goal.invariant-loop-p
invariant-loop-p l = dangling_from (ids l.index 3 l.n) (ids l.pindex 3 l.m) ≡ dangling_from (ids l.index 3 l.n) (drop l.p (ids l.pindex 3 l.m))
