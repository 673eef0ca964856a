-- `are_due` meets its contract: the first id is below the last, so their distance is a number (`firsts-order`).
use native.Mathlib.Omega.{arith}
use Rattle.walk.proofs.Noted.{firsts-order}
use Rattle.walk.proofs.noting.are_due.Goals as goal

pub overflow_sub-rows : goal.overflow_sub-rows
overflow_sub-rows c = omega (arith, firsts-order c.args.held.now.rows.now c.args.held.now.count c.args.held.now.tabled.up (omega arith))
