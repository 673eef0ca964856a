-- `judge_image` is 24 to 27 and then 28 to 35 of the input tables: where the first accept, every edge leads to a row, which the second ask.
use Rattle.std.proofs.Common.{refl, ◌∙◌, arith}
use Rattle.imaged.proofs.Chained.{part-second}
use Rattle.imaged.proofs.Whole.{image-refused, image-graphed, image-judged, image-order}
use Rattle.imaged.proofs.judge_image.Goals as goal

pub returns-in_err-judge_edges_in-clause-value : goal.returns-in_err-judge_edges_in-clause-value
returns-in_err-judge_edges_in-clause-value c =
    grind (arith, image-refused _ _ _ _ _ c.requires _ _ _ c.split_at_mut-image.ensures.front c.split_at.ensures.front c.split_at.ensures.back _ c.judge_edges_in.ensures c.args.depth _ c.in_err-judge_edges_in.was)

pub judge_graph-requires : goal.judge_graph-requires
judge_graph-requires c =
    image-graphed _ _ _ _ _ c.requires _ _ _ c.split_at_mut-image.ensures.front c.split_at.ensures.front c.split_at.ensures.back _ c.judge_edges_in.ensures c.in_ok-judge_edges_in.was
    _ refl refl refl _ (omega (arith, c.split_at_mut-image.ensures.back_len, c.judge_edges_in.auto.scratch, c.requires.fits))

pub returns-clause-value : goal.returns-clause-value
returns-clause-value c =
    image-judged _ _ _ _ _ c.requires _ _ _ c.split_at_mut-image.ensures.front c.split_at.ensures.front c.split_at.ensures.back _ c.judge_edges_in.ensures c.in_ok-judge_edges_in.was
    c.args.depth _ c.judge_graph.ensures.value

pub returns-clause-n_after : goal.returns-clause-n_after
returns-clause-n_after c accepted =
    part-second _ _ _ _ _ c.split_at_mut-image.ensures.front_len
    ∙ image-order _ _ _ _ _ c.requires _ _ _ c.split_at_mut-image.ensures.front c.split_at.ensures.front c.split_at.ensures.back
    c.args.depth _ _ c.judge_graph.ensures.n_after accepted
