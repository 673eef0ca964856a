-- `order::taking::take_node` meets its contract: the offsets lead to the node's children, which `visit_all` visits.
use mathlib.Core.Path.{◌∙◌}
use native.Mathlib.Omega.{arith}
use Rattle.order.proofs.AreaStep.{ends_at, nodes-at, unreadied, visited-at}
use Rattle.words.proofs.PartLaws.{part_at}
use Rattle.order.proofs.taking.take_node.Goals as goal

pub overflow_add-at-2 : goal.overflow_add-at-2
overflow_add-at-2 c =
    omega (
      arith,
      ends_at c.args.n c.args.m c.args.i c.args.w.now c.requires.laid c.requires.node _ _ c.index-from.ensures c.index-to.ensures,
      c.requires.laid.room,
    )

pub overflow_add-at-3 : goal.overflow_add-at-3
overflow_add-at-3 c =
    omega (
      arith,
      ends_at c.args.n c.args.m c.args.i c.args.w.now c.requires.laid c.requires.node _ _ c.index-from.ensures c.index-to.ensures,
      c.requires.laid.room,
    )

pub visit_all-requires : goal.visit_all-requires
visit_all-requires c =
    let e = ends_at c.args.n c.args.m c.args.i c.args.w.now c.requires.laid c.requires.node _ _ c.index-from.ensures c.index-to.ensures in
    record {
      behind_slots = omega arith;
      ordered = omega (arith, e);
      in_area = omega (arith, e, c.set_slot.auto.w, c.requires.laid.room);
      depth_below = rw (part_at c.args.w.now c.args.n c.args.n c.args.i c.requires.node) at c.requires.depth_below;
      tree_before = c.set_slot.ensures.tree;
      nodes =
          nodes-at c.args.n c.args.m c.args.i c.args.w.now c.requires.laid c.requires.node _ _ c.index-from.ensures c.index-to.ensures _
          c.set_slot.ensures.beside.rest;
    }

pub returns : goal.returns
returns c = record {
  visited = visited-at c.args.n c.args.m c.args.i c.args.w.now c.requires.laid c.requires.node _ _ c.index-from.ensures c.index-to.ensures _ _ _
      c.set_slot.auto.w c.set_slot.ensures.beside.rest (unreadied c.args.i c.args.n c.args.w.now _ c.set_slot.ensures.slot c.set_slot.ensures.beside)
      c.visit_all.ensures.visited;
  tree = c.visit_all.ensures.tree;
  rest_stays = c.visit_all.ensures.rest_stays ∙ c.set_slot.ensures.beside.rest;
}
