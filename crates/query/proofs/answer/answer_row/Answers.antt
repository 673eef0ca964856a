-- `answer_row` meets its contract: where nothing is pruned nothing was written, and the marks tell remote and incomplete ancestors.
use native.Mathlib.Omega.{arith}
use Rattle.std.specs.Prelude.{Ok}
use Rattle.words.specs.Part.{part}
use Rattle.owned.proofs.Raising.{again-asks}
use Rattle.query.specs.Told.{pruned_in, remote_in, incomplete_in}
use Rattle.query.proofs.Telling.{told-pruned, told-open, told-owned}
use Rattle.query.proofs.answer.answer_row.Goals as goal

pub returns-then-pruned-gt0-clause-told : goal.returns-then-pruned-gt0-clause-told
returns-then-pruned-gt0-clause-told c =
    told-pruned c.args.mode c.args.id (remote_in c.args.history.now.owned.now c.args.history.now.completed.now (part c.args.w.now c.args.ids.from c.args.ids.count)) (incomplete_in c.args.history.now.owned.now c.args.history.now.completed.now (part c.args.w.now c.args.ids.from c.args.ids.count)) c.args.lists.now.first.now _ c.args.lists.now.second.now c.list_pruned-pruned.result (pruned_in c.args.held.now.rows.now c.args.held.now.count c.args.id (part c.args.w.now c.args.ids.from c.args.ids.count)) (c.list_pruned-pruned.ensures.first_after, c.list_pruned-pruned.ensures.value) c.if-pruned-gt0.true

pub mark_owned-requires : goal.mark_owned-requires
mark_owned-requires c =
    again-asks c.args.ids.from c.args.ids.marks c.args.ids.count c.args.w.now _ c.args.ids.behind c.requires.ascends.0 c.requires.ascends.1 c.list_pruned-pruned.ensures.before_the_marks c.list_pruned-pruned.auto.w

pub returns-clause-told : goal.returns-clause-told
returns-clause-told c =
    told-open c.args.mode c.args.id (remote_in c.args.history.now.owned.now c.args.history.now.completed.now (part c.args.w.now c.args.ids.from c.args.ids.count)) (incomplete_in c.args.history.now.owned.now c.args.history.now.completed.now (part c.args.w.now c.args.ids.from c.args.ids.count)) c.args.lists.now.first.now c.list_pruned-pruned.new.first c.args.lists.now.second.now c.list_pruned-pruned.result (pruned_in c.args.held.now.rows.now c.args.held.now.count c.args.id (part c.args.w.now c.args.ids.from c.args.ids.count)) (Ok c.answer_open.result) _ _ (c.list_pruned-pruned.ensures.first_after, c.list_pruned-pruned.ensures.value) c.if-pruned-gt0.false
    (told-owned c.args.mode c.args.id c.args.history.now.owned.now c.args.history.now.completed.now c.args.ids.from c.args.ids.marks c.args.ids.count c.args.w.now _ c.mark_owned.new.w (Ok c.answer_open.result) _ _ _ _ c.args.ids.behind (omega (arith, c.requires.ascends.0, c.list_pruned-pruned.auto.w)) c.list_pruned-pruned.ensures.before_the_marks c.mark_owned.ensures c.answer_open.ensures)
