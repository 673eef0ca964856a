-- Each way out is one of `Whole`.
use mathlib.Core.Path.{refl}
use Rattle.rules.specs.Lent.{tables_in, areas_in}
use Rattle.layout.proofs.Whole.{bad, short, fit, holds, past_room_lem}
use Rattle.layout.proofs.judge_layout_with_limits.Goals as goal

pub returns-then-is_bad_layout-clause-owed : goal.returns-then-is_bad_layout-clause-owed
returns-then-is_bad_layout-clause-owed c =
    bad c.args.epoch c.args.size c.args.limits (tables_in c.args.layout.now) c.args.work.now (areas_in c.args.areas.now) _ c.is_bad_layout.ensures _ c.if-is_bad_layout.true refl

pub returns-then-is_short_to_judge-clause-owed : goal.returns-then-is_short_to_judge-clause-owed
returns-then-is_short_to_judge-clause-owed c =
    short c.args.epoch c.args.size c.args.limits (tables_in c.args.layout.now) c.args.work.now (areas_in c.args.areas.now) _ c.is_bad_layout.ensures c.if-is_bad_layout.false _ c.is_short_to_judge.ensures _ c.if-is_short_to_judge.true refl

pub judge_in-judged-requires : goal.judge_in-judged-requires
judge_in-judged-requires c =
    fit c.args.epoch c.args.size c.args.limits (tables_in c.args.layout.now) c.args.work.now (areas_in c.args.areas.now) _ c.is_bad_layout.ensures c.if-is_bad_layout.false _ c.is_short_to_judge.ensures c.if-is_short_to_judge.false

pub finish-requires-clause-room : goal.finish-requires-clause-room
finish-requires-clause-room c =
    holds c.args.epoch c.args.size c.args.limits (tables_in c.args.layout.now) c.args.work.now (areas_in c.args.areas.now) _ c.is_bad_layout.ensures c.if-is_bad_layout.false _ c.is_short_to_judge.ensures c.if-is_short_to_judge.false

pub returns-clause-owed : goal.returns-clause-owed
returns-clause-owed c =
    past_room_lem c.args.epoch c.args.size c.args.limits (tables_in c.args.layout.now) c.args.work.now (areas_in c.args.areas.now) _ c.is_bad_layout.ensures c.if-is_bad_layout.false _ c.is_short_to_judge.ensures c.if-is_short_to_judge.false _ _ c.judge_in-judged.ensures.value c.judge_in-judged.ensures.laid_out _ _ _ c.finish.ensures.value c.finish.ensures.cleared c.judge_in-judged.ensures.same_length c.finish.ensures.stored
