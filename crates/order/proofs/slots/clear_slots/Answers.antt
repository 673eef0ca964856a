-- `order::slots::clear_slots` meets its contract: the lent part comes back as an empty tree, and the words beside it stay.
use Rattle.order.proofs.AreaSlots.{tree-clear}
use Rattle.order.proofs.slots.clear_slots.Goals as goal

pub returns : goal.returns
returns c =
    let r = tree-clear c.args.n c.args.w.now c.clear_tree.new.t c.requires c.clear_tree.auto.t c.clear_tree.ensures.0 in
    record { tree = r.0; beside = r.1 }
