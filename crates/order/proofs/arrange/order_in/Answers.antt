-- `order::arrange::order_in` meets its contract: degrees, depths and slots are those of the start, and the graph was kept.
use mathlib.Core.Path.{◌∙◌}
use Rattle.order.proofs.AreaStart.{all-kept, all_laid, all-low, all_told, all-zero}
use Rattle.order.proofs.arrange.order_in.Goals as goal

pub arrange-requires : goal.arrange-requires
arrange-requires c = record {
  laid = all_laid c.args.n c.args.m c.args.w.now c.begin_deg.new.w c.begin_dep.new.w c.begin_slots.new.w c.requires c.begin_deg.auto.w
      c.begin_deg.ensures.degrees c.begin_deg.ensures.rest_stays c.begin_dep.auto.w c.begin_dep.ensures.depths c.begin_dep.ensures.degrees_stay c.begin_dep.ensures.rest_stays
      c.begin_slots.auto.w c.begin_slots.ensures.slots c.begin_slots.ensures.beside;
  tree = c.begin_slots.ensures.tree;
  slots_low = all-low c.args.n c.args.m c.args.w.now c.begin_deg.new.w c.begin_dep.new.w c.begin_slots.new.w c.requires c.begin_deg.auto.w
      c.begin_deg.ensures.degrees c.begin_deg.ensures.rest_stays c.begin_dep.auto.w c.begin_dep.ensures.depths c.begin_dep.ensures.degrees_stay c.begin_dep.ensures.rest_stays
      c.begin_slots.auto.w c.begin_slots.ensures.slots c.begin_slots.ensures.beside;
  depths_zero = all-zero c.args.n c.args.m c.args.w.now c.begin_deg.new.w c.begin_dep.new.w c.begin_slots.new.w c.requires c.begin_deg.auto.w
      c.begin_deg.ensures.degrees c.begin_deg.ensures.rest_stays c.begin_dep.auto.w c.begin_dep.ensures.depths c.begin_dep.ensures.degrees_stay c.begin_dep.ensures.rest_stays
      c.begin_slots.auto.w c.begin_slots.ensures.slots c.begin_slots.ensures.beside;
}

pub returns : goal.returns
returns c = (
  all_told c.args.n c.args.m c.args.w.now c.begin_deg.new.w c.begin_dep.new.w c.begin_slots.new.w c.requires c.begin_deg.auto.w
      c.begin_deg.ensures.degrees c.begin_deg.ensures.rest_stays c.begin_dep.auto.w c.begin_dep.ensures.depths c.begin_dep.ensures.degrees_stay c.begin_dep.ensures.rest_stays
      c.begin_slots.auto.w c.begin_slots.ensures.slots c.begin_slots.ensures.beside c.args.lim c.arrange.result _ c.arrange.ensures.told,
  c.arrange.ensures.graph_stays
      ∙ all-kept c.args.n c.args.m c.args.w.now c.begin_deg.new.w c.begin_dep.new.w c.begin_slots.new.w c.requires c.begin_deg.auto.w
      c.begin_deg.ensures.degrees c.begin_deg.ensures.rest_stays c.begin_dep.auto.w c.begin_dep.ensures.depths c.begin_dep.ensures.degrees_stay c.begin_dep.ensures.rest_stays
      c.begin_slots.auto.w c.begin_slots.ensures.slots c.begin_slots.ensures.beside,
)
