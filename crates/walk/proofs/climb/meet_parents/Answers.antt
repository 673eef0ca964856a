-- `meet_parents` meets its contract. The invariant: the parents to come, from what is met so far, give what all of them give (`Passing`).
use mathlib.Core.Path.{◌∙◌}
use Rattle.words.specs.Table.{ids}
use Rattle.words.proofs.TableLaws.{length_ids}
use Rattle.rules.specs.Tables.{held_width}
use Rattle.walk.proofs.Turns.{passing-next, passing-end}
use borrow.Author.Rules.{rules}
use Rattle.walk.proofs.climb.meet_parents.Goals as goal

pub loop-j-preserved : goal.loop-j-preserved
loop-j-preserved c = (
  search rules,
  c.meet_parent-l.ensures.1,
  c.meet_parent-l.auto.w ∙ c.loop-j.invariant.2,
  passing-next (ids c.args.held.now.rows.now held_width c.args.held.now.count) c.args.parents.now c.args.held.now.count c.args.t.met c.args.t.bare c.args.w.now
      (length_ids _ _ _) c.args.held.now.tabled.up c.loop-j.j c.loop-j.l.met c.loop-j.l.bare c.loop-j.w c.loop-j.invariant.3 _ _ _
      c.loop-j-test.true c.meet_parent-l.ensures,
)

pub returns : goal.returns
returns c =
    passing-end (ids c.args.held.now.rows.now held_width c.args.held.now.count) c.args.parents.now c.args.held.now.count c.args.t.met c.args.t.bare c.args.w.now
    (length_ids _ _ _) c.args.held.now.tabled.up c.loop-j.j c.loop-j.l.met c.loop-j.l.bare c.loop-j.w c.loop-j.invariant.3
    c.loop-j-test.false c.loop-j.invariant.1
