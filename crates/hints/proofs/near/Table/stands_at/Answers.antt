-- `Table::stands_at` meets its contract: by the words of the row.
use Rattle.std.proofs.Common.{eqb-true}
use Rattle.words.proofs.Beside.{stands}
use Rattle.hints.proofs.near.Table.stands_at.Goals as goal

pub returns-then-at-self : goal.returns-then-at-self
returns-then-at-self c = λ e. stands c.args.self.now.rows.now c.args.self.now.width c.args.self.now.count c.args.id c.args.self.now.ascends c.args.at c.if-at-self.true (eqb-true _ _ e)
