-- `judge_graph` is the order and then the ranges, which are placed behind what the order used, so that the order list stays.
use Rattle.std.proofs.Common.{◌*◌, arith}
use Rattle.held.specs.Front.{segments_of}
use Rattle.imaged.specs.Judging.{order_in}
use Rattle.imaged.proofs.Chained.{order-stays}
use Rattle.imaged.proofs.graph.judge_graph.Goals as goal

pub returns-clause-n_after : goal.returns-clause-n_after
returns-clause-n_after c accepted =
    order-stays c.args.depth (order_in c.args.depth c.args.held.now.count (segments_of c.args.held.now)) c.judge_order.new.scratch c.judge_ranges.new.scratch
    (4 * c.args.held.now.count) c.args.held.now.count _ (omega (arith, c.judge_order.auto.scratch, c.split_at_mut-order.ensures.front_len, c.requires.fits))
    c.judge_order.ensures.value c.in_ok-judge_order.was c.judge_order.ensures.order_left
