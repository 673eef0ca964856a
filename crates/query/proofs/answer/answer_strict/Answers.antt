-- `answer_strict` meets its contract: one law of `Telling` for each way out.
use Rattle.owned.specs.Marks.{with_mark}
use Rattle.query.proofs.Telling.{strict-barred, strict-blocked, strict-eligible}
use Rattle.query.proofs.answer.answer_strict.Goals as goal

pub returns-then-remote-gt0 : goal.returns-then-remote-gt0
returns-then-remote-gt0 c = search strict-barred

pub returns-then-incomplete-gt0 : goal.returns-then-incomplete-gt0
returns-then-incomplete-gt0 c =
    λ l. strict-blocked c.args.id c.args.first.now c.list_marked-remote.new.list l (with_mark c.args.w.now c.args.ids.from c.args.ids.marks 0 c.args.ids.count) (with_mark c.args.w.now c.args.ids.from c.args.ids.marks 1 c.args.ids.count) c.list_marked-remote.result (c.list_marked-remote.ensures.list_after, c.list_marked-remote.ensures.value) c.if-remote-gt0.false _ c.list_marked-incomplete.result (c.list_marked-incomplete.ensures.list_after, c.list_marked-incomplete.ensures.value) c.if-incomplete-gt0.true

pub returns : goal.returns
returns c =
    λ l. strict-eligible c.args.id c.args.first.now c.list_marked-remote.new.list l (with_mark c.args.w.now c.args.ids.from c.args.ids.marks 0 c.args.ids.count) (with_mark c.args.w.now c.args.ids.from c.args.ids.marks 1 c.args.ids.count) c.list_marked-remote.result (c.list_marked-remote.ensures.list_after, c.list_marked-remote.ensures.value) c.if-remote-gt0.false _ c.list_marked-incomplete.result (c.list_marked-incomplete.ensures.list_after, c.list_marked-incomplete.ensures.value) c.if-incomplete-gt0.false
