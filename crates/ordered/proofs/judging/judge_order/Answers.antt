-- `ordered::judging::judge_order` meets its contract: each answer of the graph's order is that of the rule book's order, and the nodes left become ids.
use Rattle.std.proofs.Common.{arith, ap, ◌∙◌}
use Rattle.std.specs.Prelude.{Err}
use Rattle.ordered.proofs.JudgeLaws.{judged-cyclic, judged-depth, judged-whole, taken-nodes, told-cyclic, told-depth, told-whole}
use Rattle.ordered.proofs.judging.judge_order.Goals as goal

pub lay_ids-requires : goal.lay_ids-requires
lay_ids-requires c =
    record { rows_fit = omega (arith, c.args.held.now.tabled.size); room = omega (arith, c.requires.room, c.order_nodes.auto.scratch); nodes = taken-nodes c.args.held.now c.requires.closed c.args.limit c.order_nodes.new.scratch (omega (arith, c.requires.room, c.order_nodes.auto.scratch)) (told-whole c.order_nodes.result _ _ c.order_nodes.ensures c.in-Ok.is) }

pub returns-in-Ok : goal.returns-in-Ok
returns-in-Ok c =
    let r = judged-whole c.args.held.now c.requires.closed c.args.limit c.order_nodes.new.scratch (omega (arith, c.requires.room, c.order_nodes.auto.scratch)) (told-whole c.order_nodes.result _ _ c.order_nodes.ensures c.in-Ok.is) c.lay_ids.new.scratch c.lay_ids.ensures in
    record { value = r.0; order_left = r.1 }

pub returns-in-Err-Depth : goal.returns-in-Err-Depth
returns-in-Err-Depth c =
    let r = judged-depth c.args.held.now c.requires.closed c.args.limit _ _ (told-depth c.order_nodes.result _ _ _ c.order_nodes.ensures (c.in-Err-Depth.is ∙ ap Err c.in-Err-Depth.field-0-is)) in
    record { value = r.0; order_left = r.1 }

pub returns-in-Err-Cycle : goal.returns-in-Err-Cycle
returns-in-Err-Cycle c =
    let r = judged-cyclic c.args.held.now c.requires.closed c.args.limit _ (told-cyclic c.order_nodes.result _ _ c.order_nodes.ensures (c.in-Err-Cycle.is ∙ ap Err c.in-Err-Cycle.field-0-is)) in
    record { value = r.0; order_left = r.1 }
