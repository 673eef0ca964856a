-- `raise_all` meets its contract. The invariant: the marks are raised by the ids passed (`Raised`).
use native.Mathlib.Omega.{arith}
use mathlib.Core.Path.{◌∙◌}
use Rattle.tabled.proofs.Kept.{part-kept}
use Rattle.owned.proofs.Raising.{raised-start, raised-next, raised-end}
use borrow.Author.Rules.{rules}
use Rattle.owned.proofs.marks.raise_all.Goals as goal

pub loop-x-preserved : goal.loop-x-preserved
loop-x-preserved c = (
  search rules,
  c.raise_one.auto.w ∙ c.loop-x.invariant.1,
  rw (part-kept _ c.loop-x.w c.args.ids.marks c.raise_one.ensures.front c.args.ids.from c.args.ids.count c.args.ids.behind) c.loop-x.invariant.2,
  raised-next c.args.list.now c.loop-x.x-index c.args.from c.args.to c.args.ids.from c.args.ids.marks c.args.ids.count c.args.w.now c.loop-x.w _ c.requires.from_differs
      c.args.ids.behind c.loop-x-test.true c.loop-x.invariant.3 c.raise_one.ensures,
)
