-- `pairs_before` meets its contract: below lo all rows stand before the pair, from hi on none does.
use Rattle.sorts.specs.Rows.{rows}
use Prim.Native.Nat.{◌-◌}
use Rattle.lookups.proofs.Between.{Between}
use Rattle.lookups.proofs.pairs.pairs_before.Given as goal

abbrev pub invariant-loop-lo : goal.invariant-loop-lo
invariant-loop-lo l = Between (rows l.pairs) l.x l.y l.k l.lo l.hi

abbrev pub decreases-loop-lo : goal.decreases-loop-lo
decreases-loop-lo l = l.hi - l.lo
