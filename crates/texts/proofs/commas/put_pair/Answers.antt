-- `texts::commas::put_pair` meets its contract: each need is arithmetic, a law that is imported, or what a callee promised.
use Rattle.texts.proofs.Writing.{on}
use Rattle.texts.proofs.commas.put_pair.Goals as goal

pub returns : goal.returns
returns c =
    on
    c.put_number-p.ensures
    (on c.put_byte-q.ensures c.put_number.ensures)
