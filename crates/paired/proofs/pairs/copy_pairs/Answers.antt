-- `paired::pairs::copy_pairs` meets its contract: after i turns two words of each of the first i rows stand at the front of out (`Copied`).
use Rattle.paired.proofs.Sorting.{copied-start, copied_next, copied-end}
use borrow.Author.Rules.{rules}
use Rattle.paired.proofs.pairs.copy_pairs.Goals as goal

pub loop-i-init : goal.loop-i-init
loop-i-init c = (search rules, search copied-start)

pub loop-i-preserved : goal.loop-i-preserved
loop-i-preserved c = (search rules, search copied_next)

pub returns : goal.returns
returns c = search copied-end
