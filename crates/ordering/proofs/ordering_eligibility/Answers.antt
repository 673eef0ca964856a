-- `ordering_eligibility` meets its contract: 1, 2, and else the query on the tables cut to size; then the work area is cleared.
use mathlib.Core.Path.{refl}
use Rattle.ordering.specs.Asked.{lent_of}
use Rattle.ordering.proofs.Called.{asked-bad, asked-short, asked-good, asked-room, call-refused, call-answered}
use Rattle.ordering.proofs.ordering_eligibility.Goals as goal

pub returns-in_default : goal.returns-in_default
returns-in_default c =
    let e = call-refused _ _ _ c.args.lists.now.first.now c.args.lists.now.second.now c.args.work.now
    (asked-bad c.args.tables.now c.args.mode c.args.segment.0 c.args.history.now (lent_of c.args.work.now c.args.lists.now) _ c.in_default.ensures) c.refused.ensures in
    record { value = e.0; first_after = e.1.0; second_after = e.1.1.0; work_after = e.1.1.1; same = record { first = refl; second = refl } }

pub returns-then-lacks_room_to_order : goal.returns-then-lacks_room_to_order
returns-then-lacks_room_to_order c =
    let e = call-refused _ _ _ c.args.lists.now.first.now c.args.lists.now.second.now c.args.work.now
    (asked-short c.args.tables.now c.args.mode c.args.segment.0 c.args.history.now (lent_of c.args.work.now c.args.lists.now) _ c.in-Ok.ensures
    _ c.lacks_room_to_order.ensures c.if-lacks_room_to_order.true) c.refused-then-lacks_room_to_order.ensures in
    record { value = e.0; first_after = e.1.0; second_after = e.1.1.0; work_after = e.1.1.1; same = record { first = refl; second = refl } }

pub ask_held-answer-requires : goal.ask_held-answer-requires
ask_held-answer-requires c = record {
  room =
      asked-room c.args.tables.now c.args.mode c.args.segment.0 c.args.history.now (lent_of c.args.work.now c.args.lists.now) _ c.in-Ok.ensures
      _ c.lacks_room_to_order.ensures c.if-lacks_room_to_order.false;
}

pub returns : goal.returns
returns c =
    let e = call-answered _ _ c.ask_held-answer.result c.args.lists.now.first.now _ c.args.lists.now.second.now _ c.args.work.now c.ask_held-answer.new.work _
    (asked-good c.args.tables.now c.args.mode c.args.segment.0 c.args.history.now (lent_of c.args.work.now c.args.lists.now) _ c.in-Ok.ensures
    _ c.lacks_room_to_order.ensures c.if-lacks_room_to_order.false)
    c.ask_held-answer.ensures.replied c.ask_held-answer.auto.work c.clear.ensures in
    record { value = e.0; first_after = e.1.0; second_after = e.1.1.0; work_after = e.1.1.1; same = c.ask_held-answer.ensures.same }
