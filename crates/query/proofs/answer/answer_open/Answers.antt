-- `answer_open` meets its contract, by the mode.
use Rattle.owned.specs.Marks.{with_mark}
use Rattle.query.proofs.Telling.{told-mode}
use Rattle.query.proofs.answer.answer_open.Goals as goal

pub returns-in-Strict : goal.returns-in-Strict
returns-in-Strict c = told-mode c.args.mode _ c.args.id (with_mark c.args.w.now c.args.ids.from c.args.ids.marks 0 c.args.ids.count) (with_mark c.args.w.now c.args.ids.from c.args.ids.marks 1 c.args.ids.count) _ _ _ _ _ c.in-Strict.is (c.answer_strict.ensures c.args.second.now)

pub returns-in-BrokerManaged : goal.returns-in-BrokerManaged
returns-in-BrokerManaged c = search told-mode
