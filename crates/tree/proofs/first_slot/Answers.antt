-- `tree::first_slot` meets its contract: the root of a tree is its least slot.
use native.Mathlib.Omega.{arith}
use Rattle.tree.proofs.TreeLaws.{root, no-slots}
use Rattle.tree.proofs.first_slot.Goals as goal

pub returns-then-n-eq0 : goal.returns-then-n-eq0
returns-then-n-eq0 c = no-slots _ _ c.requires.0 c.if-n-eq0.true

pub returns-else-n-eq0 : goal.returns-else-n-eq0
returns-else-n-eq0 c = root _ _ c.requires.0 (omega arith) c.requires.1
