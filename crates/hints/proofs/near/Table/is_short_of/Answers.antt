-- `Table::is_short_of` meets its contract: the first of the rows from there on tells of all, since ids ascend (`short-of`).
use Rattle.std.proofs.Common.{arith, ltb-true}
use Rattle.words.proofs.Beside.{short-of}
use Rattle.hints.proofs.near.Table.is_short_of.Goals as goal

pub returns-else-at-self : goal.returns-else-at-self
returns-else-at-self c = λ e k q q'. short-of c.args.self.now.rows.now c.args.self.now.width c.args.self.now.count c.args.id c.args.self.now.ascends c.args.at (omega arith) (ltb-true _ _ e) k q q'
