-- `judge_rows` meets its contract: a row's edges lie in the table, and what is answered at it is what the rule says of the rows from it on.
use Rattle.judging.proofs.Walk.{room_next, room, rows-twin, rows-refused, rows_next}
use borrow.Author.Rules.{rules}
use native.Mathlib.Omega.{arith}
use Rattle.judging.proofs.rows.judge_rows.Goals as goal

pub returns-then-flags-i-ne0 : goal.returns-then-flags-i-ne0
returns-then-flags-i-ne0 c = search (rows-twin, room)

pub judge_counted-requires : goal.judge_counted-requires
judge_counted-requires c = search (rules, room)

pub returns-in_err-judge_counted : goal.returns-in_err-judge_counted
returns-in_err-judge_counted c = grind (
  arith,
  rows-refused _ _ _ _ _ _ _ _ _ _ c.loop-i.invariant.2 c.loop-i-test.true (room _ _ _ _ _ c.loop-i.invariant.0 c.loop-i-test.true) _ c.requires.twins
      c.if-flags-i-ne0.false _ c.judge_counted.ensures _ c.in_err-judge_counted.was,
)

pub loop-i-preserved : goal.loop-i-preserved
loop-i-preserved c = (
  search room_next,
  search rules,
  rows_next _ _ _ _ _ _ _ _ _ _ c.loop-i.invariant.2 c.loop-i-test.true (room _ _ _ _ _ c.loop-i.invariant.0 c.loop-i-test.true) _ c.requires.twins c.if-flags-i-ne0.false _
      c.judge_counted.ensures c.in_ok-judge_counted.was,
)
