-- `watch::update_with_limits` meets its contract: each way out is one of `Whole`.
use Rattle.rules.specs.Lent.{tables_in, areas_in, changes_in}
use Rattle.watch.proofs.Whole.{refused, old, new}
use Rattle.watch.proofs.update_with_limits.Goals as goal

pub returns-in-Err-clause-owed : goal.returns-in-Err-clause-owed
returns-in-Err-clause-owed c =
    refused c.args.session c.args.update c.args.limits (tables_in c.args.layout.now) c.args.work.now (areas_in c.args.areas.now) (changes_in c.args.changes.now) _ c.judge_address.ensures _ c.in-Err.is

pub returns-then-is_stale-clause-owed : goal.returns-then-is_stale-clause-owed
returns-then-is_stale-clause-owed c =
    old c.args.session c.args.update c.args.limits (tables_in c.args.layout.now) c.args.work.now (areas_in c.args.areas.now) (changes_in c.args.changes.now) _ c.judge_address.ensures c.in_default.is _ c.is_stale.ensures c.if-is_stale.true

pub returns-clause-owed : goal.returns-clause-owed
returns-clause-owed c =
    new c.args.session c.args.update c.args.limits (tables_in c.args.layout.now) c.args.work.now (areas_in c.args.areas.now) (changes_in c.args.changes.now) _ c.judge_address.ensures c.in_default.is _ c.is_stale.ensures c.if-is_stale.false _ _ c.held_rows.ensures c.held_edges.ensures _ _ _ _ _ c.replace-answer.ensures.replaced c.session_after.ensures
