-- `judge_list` meets its contract: what the list is answered is what is answered to the items from here on.
use mathlib.Core.Path.{◌≡◌}
use lib.ListN.{drop}
use Rattle.edges.specs.Links.{edges_all}
use Rattle.edges.proofs.judge_list.Given as goal

abbrev pub invariant-loop-other : goal.invariant-loop-other
invariant-loop-other l =
    edges_all l.side l.table l.n l.index.pairs.now l.i l.list ≡ edges_all l.side l.table l.n l.index.pairs.now l.i (drop l.other-index l.list)
