-- `judge_incoming` meets its contract: whichever rule refuses first is the answer (proofs/Answered), and past all of them both indexes stand (proofs/Readied).
use Rattle.incoming.proofs.Answered.{sizes-refused, places-refused, rows-refused, all-judged}
use Rattle.incoming.proofs.Readied.{index-up, dangling-here, ready}
use borrow.Author.Rules.{rules}
use native.Mathlib.Omega.{arith}
use Rattle.incoming.proofs.judge_incoming.Goals as goal

pub returns-in_err-judge_sizes-clause-value : goal.returns-in_err-judge_sizes-clause-value
returns-in_err-judge_sizes-clause-value c = grind (
  arith,
  sizes-refused c.args.epoch c.args.size c.args.limits c.args.layout.now.rows.now c.args.layout.now.edges.now c.args.n c.args.layout.now.places.now c.args.m _ c.judge_sizes.ensures _ c.in_err-judge_sizes.was,
)

pub returns-in_err-judge_placements_in-clause-value : goal.returns-in_err-judge_placements_in-clause-value
returns-in_err-judge_placements_in-clause-value c = grind (
  arith,
  places-refused c.args.epoch c.args.size c.args.limits c.args.layout.now.rows.now c.args.layout.now.edges.now c.args.n c.args.layout.now.places.now c.args.m _ c.judge_sizes.ensures c.in_ok-judge_sizes.was
      _ c.judge_placements_in.ensures.value _ c.in_err-judge_placements_in.was,
)

pub returns-in_err-judge_rows_in-clause-value : goal.returns-in_err-judge_rows_in-clause-value
returns-in_err-judge_rows_in-clause-value c = grind (
  arith,
  rows-refused c.args.epoch c.args.size c.args.limits c.args.layout.now.rows.now c.args.layout.now.edges.now c.args.n c.args.layout.now.places.now c.args.m _ c.judge_sizes.ensures c.in_ok-judge_sizes.was
      _ c.judge_placements_in.ensures.value c.in_ok-judge_placements_in.was _ c.judge_rows_in.ensures.value _ c.in_err-judge_rows_in.was,
)

pub judge_dangling-requires-clause-ascends : goal.judge_dangling-requires-clause-ascends
judge_dangling-requires-clause-ascends c = search (index-up, c.in_ok-judge_rows_in.was)

pub returns : goal.returns
returns c = record {
  value = search (all-judged, dangling-here, c.in_ok-judge_sizes.was, c.in_ok-judge_placements_in.was, c.in_ok-judge_rows_in.was);
  ready = λ q. search (ready, c.in_ok-judge_placements_in.was);
  same_length = search rules;
}
