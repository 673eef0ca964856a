-- `paired::ids::write_lacking` meets its contract: after i turns the ids lacking among the first i stand at the front of out (`Listed`).
use Rattle.paired.proofs.Listed.{listed_start, listed_next, listed-count, listed-is}
use borrow.Author.Rules.{rules}
use Rattle.paired.proofs.ids.write_lacking.Goals as goal

pub loop-i-init : goal.loop-i-init
loop-i-init c = (search rules, search listed_start)

pub loop-i-preserved : goal.loop-i-preserved
loop-i-preserved c = (search rules, search listed_next)

pub returns : goal.returns
returns c = record { count = search listed-count; written = search listed-is }
