-- `mark_owned` meets its contract: marks cleared, raised by the history, and raised again by the completed list.
use native.Mathlib.Omega.{arith}
use mathlib.Core.Path.{◌∙◌}
use Rattle.owned.proofs.Raising.{cleared, cleared-length, again-asks, owned-marks}
use Rattle.owned.proofs.marks.mark_owned.Goals as goal

pub raise_all-requires : goal.raise_all-requires
raise_all-requires c = record {
  ascends =
      again-asks c.args.ids.from c.args.ids.marks c.args.ids.count c.args.w.now _ c.args.ids.behind c.requires.0 c.requires.1
      (cleared c.args.ids.from c.args.ids.marks c.args.ids.count c.args.w.now c.clear.new.a c.requires.0 c.clear.auto.a c.clear.ensures).front
      (cleared-length c.args.ids.marks c.args.ids.count c.args.w.now c.clear.new.a c.requires.0 c.clear.auto.a);
  from_differs = λ e. omega arith;
}

pub raise_all-requires-2 : goal.raise_all-requires-2
raise_all-requires-2 c = record {
  ascends =
      again-asks c.args.ids.from c.args.ids.marks c.args.ids.count c.args.w.now _ c.args.ids.behind c.requires.0 c.requires.1
      (c.raise_all.ensures.front
      ∙ (cleared c.args.ids.from c.args.ids.marks c.args.ids.count c.args.w.now c.clear.new.a c.requires.0 c.clear.auto.a c.clear.ensures).front)
      (c.raise_all.auto.w ∙ cleared-length c.args.ids.marks c.args.ids.count c.args.w.now c.clear.new.a c.requires.0 c.clear.auto.a);
  from_differs = λ e. omega arith;
}

pub returns : goal.returns
returns c =
    owned-marks c.args.history.now.owned.now c.args.history.now.completed.now c.args.ids.from c.args.ids.marks c.args.ids.count c.args.w.now _ _ _ c.args.ids.behind
    (cleared c.args.ids.from c.args.ids.marks c.args.ids.count c.args.w.now c.clear.new.a c.requires.0 c.clear.auto.a c.clear.ensures) c.raise_all.ensures
    c.raise_all-2.ensures
