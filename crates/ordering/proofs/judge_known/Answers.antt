-- `judge_known` meets its contract: an id is known where its row is found.
use Rattle.std.proofs.Common.{refl, sym, ◌∙◌, arith}
use Rattle.words.specs.Table.{At, Nothing}
use Rattle.ordering.proofs.Stretches.{known-bad, known-at, known-nowhere}
use Rattle.ordering.proofs.judge_known.Goals as goal

pub returns-in_err-held : goal.returns-in_err-held
returns-in_err-held c = grind (arith, known-bad c.args.tables.now c.args.id.0 _ c.in_err-held.ensures)

pub returns-in-Some : goal.returns-in-Some
returns-in-Some c = known-at c.args.tables.now c.args.id.0 _ c.in_ok-held.ensures (At _) c.in-Some.ensures _ refl

pub returns-in-None : goal.returns-in-None
returns-in-None c = known-nowhere c.args.tables.now c.args.id.0 _ c.in_ok-held.ensures Nothing c.in-None.ensures refl
