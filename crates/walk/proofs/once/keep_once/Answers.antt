-- `keep_once` meets its contract. The invariant: the ids kept are those of the rows passed, each once (`Kept`).
use mathlib.Core.Path.{◌∙◌}
use Rattle.walk.proofs.Keeping.{kept_step, kept-end}
use borrow.Author.Rules.{rules}
use Rattle.walk.proofs.once.keep_once.Goals as goal

pub loop-i-preserved : goal.loop-i-preserved
loop-i-preserved c =
    let e =
    kept_step c.args.w.now c.args.a c.args.m c.args.b c.requires.0 c.requires.1 c.requires.2 c.loop-i.i c.loop-i.k c.loop-i.w
    c.loop-i.invariant.2 c.loop-i.invariant.3 c.loop-i.invariant.1 c.loop-i-test.true c.loop-i.invariant.4 _ _
    c.keep_new-k.ensures.w_after c.keep_new-k.ensures.value in
    (search rules, e.0, c.keep_new-k.auto.w ∙ c.loop-i.invariant.2, e.1, e.2)

pub returns : goal.returns
returns c = (
  kept-end c.args.w.now c.args.a c.args.m c.args.b c.requires.0 c.requires.1 c.requires.2 c.loop-i.i c.loop-i.k c.loop-i.w
      c.loop-i-test.false c.loop-i.invariant.4,
  search rules,
  c.loop-i.invariant.3,
)
