-- `find_fault` meets its contract: the fault of the whole list is that of the items from `i` on, after those before; the inner loop goes over
-- what is left of the items before `i`.
use mathlib.Core.Path.{◌≡◌}
use lib.ListN.{take, drop}
use Rattle.std.specs.Prelude.{Ok}
use Rattle.lists.specs.Lists.{has}
use Rattle.segment.specs.Faults.{fault_from, fault_of}
use Rattle.segment.proofs.Items.{Under}
use Rattle.segment.proofs.list.find_fault.Given as goal

abbrev pub invariant-items : goal.invariant-items
invariant-items l =
    (l.found ≡ Ok tt) × (fault_of l.id.0 l.list ≡ fault_from l.id.0 (take l.i l.list) (drop l.i l.list)) × Under l.list l.i l.top

abbrev pub invariant-loop-earlier : goal.invariant-loop-earlier
invariant-loop-earlier l = (l.found ≡ Ok tt) × (has l.item (take l.i l.list) ≡ has l.item (drop l.earlier-index l.earlier-items))
