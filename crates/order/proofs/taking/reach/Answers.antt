-- `order::taking::reach` meets its contract: one child's degree, depth and, where it waits for no parent any more, its slot.
use Rattle.order.proofs.AreaStep.{ready, waits}
use Rattle.order.proofs.taking.reach.Goals as goal

pub returns-then-g-eq0 : goal.returns-then-g-eq0
returns-then-g-eq0 c =
    let r = ready c.args.c c.args.e c.args.n c.args.w.now c.requires.node c.requires.slots_in_area c.requires.tree_before _ c.saturating_sub-g.ensures _ c.if-g-eq0.true
    c.set_slot.ensures.slot c.set_slot.ensures.tree c.set_slot.ensures.beside in
    record { touched = r.0; tree = r.1; rest_stays = r.2 }

pub returns-else-g-eq0 : goal.returns-else-g-eq0
returns-else-g-eq0 c =
    let r = waits c.args.c c.args.e c.args.n c.args.w.now c.requires.node c.requires.slots_in_area c.requires.tree_before _ c.saturating_sub-g.ensures c.if-g-eq0.false in
    record { touched = r.0; tree = r.1; rest_stays = r.2 }
