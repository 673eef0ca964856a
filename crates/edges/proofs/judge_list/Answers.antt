-- `judge_list` meets its contract: the first refusal is the list's, and an accepted item leaves the rest.
use native.Mathlib.Omega.{arith}
use Rattle.edges.proofs.Told.{each_end, each_refused, each_next}
use Rattle.edges.proofs.judge_list.Goals as goal

pub returns-in_err-judge_edge : goal.returns-in_err-judge_edge
returns-in_err-judge_edge c =
    grind (arith, each_refused _ _ _ c.loop-other.invariant c.loop-other-test.true _ c.judge_edge.ensures _ c.in_err-judge_edge.was)

pub loop-other-preserved : goal.loop-other-preserved
loop-other-preserved c = search (each_next, c.in_ok-judge_edge.was)

pub returns : goal.returns
returns c = search each_end
