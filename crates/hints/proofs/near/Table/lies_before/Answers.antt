-- `Table::lies_before` meets its contract: rows before are below, rows from there on above (`between`).
use Rattle.std.proofs.Common.{sym, ◌∙◌, arith, leb-true}
use Rattle.words.proofs.Beside.{between}
use Rattle.hints.proofs.near.Table.lies_before.Goals as goal
use Rattle.hints.proofs.near.Table.lies_before.Goals.{then-at-self, else-at-self}

pub returns-then-is_past : goal.returns-then-is_past
returns-then-is_past c =
    λ e. elim c.if-at-self.branch [
      | then-at-self w ↦
          between c.args.self.now.rows.now c.args.self.now.width c.args.self.now.count c.args.id c.args.at
          (w.is_past.ensures (sym w.value-is ∙ c.if-is_past.true)) (c.is_short_of.ensures e)
      | else-at-self w ↦ absurd (omega (arith, leb-true _ _ (sym w.value-is ∙ c.if-is_past.true)))
    ]
