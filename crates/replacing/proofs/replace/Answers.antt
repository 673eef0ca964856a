-- Each way out is one of `Whole`.
use mathlib.Core.Path.{refl}
use Rattle.rules.specs.Lent.{tables_in, areas_in, changes_in}
use Rattle.replacing.proofs.Whole.{bad, bad-old, short, fit, room, storable, past_room_lem}
use Rattle.replacing.proofs.replace.Goals as goal

pub returns-then-is_bad_layout-clause-replaced : goal.returns-then-is_bad_layout-clause-replaced
returns-then-is_bad_layout-clause-replaced c =
    bad c.args.held.rows c.args.held.edges c.args.epoch c.args.size c.args.limits (tables_in c.args.layout.now) c.args.work.now (areas_in c.args.areas.now) (changes_in c.args.changes.now) _ c.is_bad_layout.ensures _ c.if-is_bad_layout.true refl

pub returns-then-is_bad_held-clause-replaced : goal.returns-then-is_bad_held-clause-replaced
returns-then-is_bad_held-clause-replaced c =
    bad-old c.args.held.rows c.args.held.edges c.args.epoch c.args.size c.args.limits (tables_in c.args.layout.now) c.args.work.now (areas_in c.args.areas.now) (changes_in c.args.changes.now) _ c.is_bad_layout.ensures c.if-is_bad_layout.false _ c.is_bad_held.ensures _ c.if-is_bad_held.true refl

pub returns-then-is_short_to_update-clause-replaced : goal.returns-then-is_short_to_update-clause-replaced
returns-then-is_short_to_update-clause-replaced c =
    short c.args.held.rows c.args.held.edges c.args.epoch c.args.size c.args.limits (tables_in c.args.layout.now) c.args.work.now (areas_in c.args.areas.now) (changes_in c.args.changes.now) _ c.is_bad_layout.ensures c.if-is_bad_layout.false _ c.is_bad_held.ensures c.if-is_bad_held.false _ c.is_short_to_update.ensures _ c.if-is_short_to_update.true refl

pub judge_in-judged-requires : goal.judge_in-judged-requires
judge_in-judged-requires c =
    fit c.args.held.rows c.args.held.edges c.args.epoch c.args.size c.args.limits (tables_in c.args.layout.now) c.args.work.now (areas_in c.args.areas.now) (changes_in c.args.changes.now) _ c.is_bad_layout.ensures c.if-is_bad_layout.false _ c.is_bad_held.ensures c.if-is_bad_held.false _ c.is_short_to_update.ensures c.if-is_short_to_update.false

pub finish-requires-clause-storable : goal.finish-requires-clause-storable
finish-requires-clause-storable c =
    storable c.args.held.rows c.args.held.edges c.args.epoch c.args.size c.args.limits (tables_in c.args.layout.now) c.args.work.now (areas_in c.args.areas.now) (changes_in c.args.changes.now) _ c.is_bad_layout.ensures c.if-is_bad_layout.false _ c.is_bad_held.ensures c.if-is_bad_held.false _ c.is_short_to_update.ensures c.if-is_short_to_update.false _ _ c.judge_in-judged.ensures.value c.judge_in-judged.ensures.laid_out c.judge_in-judged.ensures.same_length

pub finish-requires-clause-room : goal.finish-requires-clause-room
finish-requires-clause-room c =
    room c.args.held.rows c.args.held.edges c.args.epoch c.args.size c.args.limits (tables_in c.args.layout.now) c.args.work.now (areas_in c.args.areas.now) (changes_in c.args.changes.now) _ c.is_bad_layout.ensures c.if-is_bad_layout.false _ c.is_bad_held.ensures c.if-is_bad_held.false _ c.is_short_to_update.ensures c.if-is_short_to_update.false

pub returns-clause-replaced : goal.returns-clause-replaced
returns-clause-replaced c =
    past_room_lem c.args.held.rows c.args.held.edges c.args.epoch c.args.size c.args.limits (tables_in c.args.layout.now) c.args.work.now (areas_in c.args.areas.now) (changes_in c.args.changes.now) _ c.is_bad_layout.ensures c.if-is_bad_layout.false _ c.is_bad_held.ensures c.if-is_bad_held.false _ c.is_short_to_update.ensures c.if-is_short_to_update.false _ _ c.judge_in-judged.ensures.value c.judge_in-judged.ensures.laid_out c.judge_in-judged.ensures.same_length _ _ _ _ c.finish.ensures.finished
