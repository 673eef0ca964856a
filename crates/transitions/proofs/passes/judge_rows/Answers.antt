-- `judge_rows` is `edges_from` over all segments: a refused row ends the pass, an accepted one leaves the rows behind it.
use Rattle.std.proofs.Common.{rules, arith}
use Rattle.transitions.proofs.Rowed.{edges_room}
use Rattle.transitions.proofs.Passing.{pass_next, pass_stop, pass_end}
use Rattle.transitions.proofs.passes.judge_rows.Goals as goal

pub judge_row-requires : goal.judge_row-requires
judge_row-requires c =
    record {
      row = c.loop-i-test.true;
      fits = search rules;
      begins = c.loop-i.invariant.0;
      within = omega (arith, edges_room c.args.held.now c.loop-i.i c.loop-i-test.true, c.loop-i.invariant.0);
    }

pub returns-in_err-judge_row : goal.returns-in_err-judge_row
returns-in_err-judge_row c =
    grind (arith, pass_stop c.args.side c.args.held.now c.loop-i.i _ c.loop-i.invariant.1 c.loop-i-test.true _ c.judge_row.ensures _ c.in_err-judge_row.was)

pub loop-i-preserved : goal.loop-i-preserved
loop-i-preserved c = (c.next_start-start.ensures, search (pass_next, c.in_ok-judge_row.was))

pub returns : goal.returns
returns c = search pass_end
