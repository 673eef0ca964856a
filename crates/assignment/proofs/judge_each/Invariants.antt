-- `judge_each` meets its contract. The invariant: the records that are left say what all say.
use Rattle.std.proofs.Common.{◌≡◌, drop}
use Rattle.rules.specs.Tables.{heads, held_width}
use Rattle.rules.specs.Assignment.{each_assigned}
use Rattle.assignment.proofs.judge_each.Given as goal

abbrev pub invariant-loop-a : goal.invariant-loop-a
invariant-loop-a l = each_assigned (heads held_width l.rows l.n 0) (drop l.a-index l.list) ≡ each_assigned (heads held_width l.rows l.n 0) l.list
