-- `printing::refusals::put_refusal` meets its contract: number and values, then the end of the line.
use Rattle.texts.proofs.Writing.{on, said}
use Rattle.printing.proofs.LineLaws.{refusal-shown}
use Rattle.printing.proofs.refusals.put_refusal.Goals as goal

pub returns : goal.returns
returns c = said (refusal-shown c.args.refusal) (on c.put_refused-p.ensures c.put_byte.ensures)
