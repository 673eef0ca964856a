-- `Table::is_past` meets its contract: the last of the rows before tells of all, since ids ascend (`past`).
use Rattle.std.proofs.Common.{◌-◌, arith, ltb-true}
use Rattle.words.proofs.Beside.{past}
use Rattle.hints.proofs.near.Table.is_past.Goals as goal

pub returns-else-at-eq0 : goal.returns-else-at-eq0
returns-else-at-eq0 c =
    λ e k q.
    past c.args.self.now.rows.now c.args.self.now.width c.args.self.now.count c.args.id c.args.self.now.ascends (c.args.at - 1) (omega arith) (ltb-true _ _ e) k (omega arith)
