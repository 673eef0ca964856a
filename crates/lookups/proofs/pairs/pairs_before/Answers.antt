-- `pairs_before` meets its contract: below lo all rows stand before the pair, from hi on none does.
use Prim.Native.Nat.{◌+◌, ◌/◌}
use native.Mathlib.Omega.{arith}
use Rattle.sorts.proofs.RowLaws.{rows-length}
use Rattle.sorts.specs.Rows.{rows}
use Prim.Native.Nat.{◌-◌}
use Rattle.lookups.proofs.Between.{between-up, between-down, between-end}
use borrow.Author.Rules.{rules}
use Rattle.lookups.proofs.pairs.pairs_before.Goals as goal

pub loop-lo-preserved-then-is_before : goal.loop-lo-preserved-then-is_before
loop-lo-preserved-then-is_before c =
    between-up (rows c.args.pairs.now) c.args.x c.args.y c.args.k c.loop-lo.lo c.loop-lo.hi
    (rows-length c.args.pairs.now c.args.k c.requires.pairs_size) c.requires.ordered c.loop-lo.invariant
    (c.loop-lo.lo + (c.loop-lo.hi - c.loop-lo.lo) / 2) (omega arith) (omega arith) c.is_before.result c.is_before.ensures c.if-is_before.true

pub loop-lo-preserved : goal.loop-lo-preserved
loop-lo-preserved c =
    between-down (rows c.args.pairs.now) c.args.x c.args.y c.args.k c.loop-lo.lo c.loop-lo.hi
    (rows-length c.args.pairs.now c.args.k c.requires.pairs_size) c.requires.ordered c.loop-lo.invariant
    (c.loop-lo.lo + (c.loop-lo.hi - c.loop-lo.lo) / 2) (omega arith) (omega arith) c.is_before.result c.is_before.ensures c.if-is_before.false

pub returns : goal.returns
returns c = record { within = search rules; pair_there = search (between-end, rows-length) }
