-- `order::arrange::arrange` meets its contract: k nodes were taken, and what is left to do gives the whole answer.
use mathlib.Core.Path.{◌∙◌}
use Prim.Native.Nat.{◌*◌, ◌<◌}
use native.Mathlib.Omega.{arith}
use Rattle.order.proofs.AreaLoop.{done_at, laid_kept, next-at, told-cycle, told-deep, told-done, visit-kept}
use Rattle.order.proofs.RunLaws.{going-cycle, going-deep, seen-deep, seen-on}
use Rattle.order.proofs.StoreLaws.{drop-further}
use Rattle.order.proofs.arrange.arrange.Goals as goal

pub returns-then-n-i : goal.returns-then-n-i
returns-then-n-i c = record {
  told = told-cycle _ c.args.m _ _ _
      (going-cycle _ _ _ _ _ _ _ _ _ _ c.loop-k.invariant.1.going c.loop-k-test.true _ (c.index-i.ensures ∙ c.first_ready-x.ensures)
      c.if-n-i.true);
  graph_stays = c.loop-k.invariant.1.kept;
}

pub take_node-requires : goal.take_node-requires
take_node-requires c = record {
  laid = laid_kept _ _ _ _ c.loop-k.invariant.1.kept c.loop-k.invariant.1.size c.requires.laid;
  node = c.if-n-i.false;
  depth_below = omega (arith, c.loop-k.invariant.1.going.shallow c.index-i.result, c.loop-k-test.true);
  tree_before = c.loop-k.invariant.1.going.tree-n;
}

pub returns-in-Err : goal.returns-in-Err
returns-in-Err c = record {
  told = told-deep c.args.n c.args.m c.args.lim c.args.w.now _ c.in-Err.deep.0
      (going-deep _ _ _ _ _ _ _ _ _ _ c.loop-k.invariant.1.going c.loop-k-test.true _ (c.index-i.ensures ∙ c.first_ready-x.ensures) c.if-n-i.false c.in-Err.deep.0
      (visit-kept c.args.n c.args.m c.args.lim _ _ c.args.w.now c.loop-k.w _ _ c.loop-k.invariant.1.kept (seen-deep _ _ _ _ c.take_node.ensures.visited c.in-Err.is)));
  graph_stays = drop-further (5 * c.args.n) (4 * c.args.n) _ _ (omega arith) c.take_node.ensures.rest_stays ∙ c.loop-k.invariant.1.kept;
}

pub loop-k-preserved : goal.loop-k-preserved
loop-k-preserved c =
    let k : c.loop-k.k < c.args.n = c.loop-k-test.true in (
      omega arith,
      next-at c.args.n c.args.m c.args.lim c.args.w.now c.loop-k.w c.loop-k.k c.requires.laid c.loop-k.invariant.1 k c.index-i.result
          (c.index-i.ensures ∙ c.first_ready-x.ensures) c.if-n-i.false
          c.take_node.new.w c.first_ready-x.result c.index-i.ensures c.take_node.auto.w c.take_node.ensures.rest_stays
          (seen-on _ _ _ c.take_node.ensures.visited c.in_default.is) c.take_node.ensures.tree,
    )

pub returns : goal.returns
returns c =
    let e = done_at c.args.n c.args.m c.args.lim c.args.w.now c.loop-k.w c.loop-k.k c.requires.laid c.loop-k.invariant.1 c.loop-k-test.false in
    record { told = told-done c.args.n c.args.m c.args.lim c.args.w.now _ e; graph_stays = c.loop-k.invariant.1.kept }
