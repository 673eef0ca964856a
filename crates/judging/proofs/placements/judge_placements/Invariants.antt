-- `judge_placements` meets its contract. The invariant: the answer is what the rule says of the rows to come, after the ids of those before.
use Prim.Native.Nat.{◌-◌}
use mathlib.Core.Path.{◌≡◌}
use lib.ListN.{take}
use Rattle.words.specs.Table.{ids}
use Rattle.rules.specs.Tables.{place_width, placements, placements_from}
use Rattle.rules.specs.Rows.{places_from, placements_rule}
use Rattle.judging.proofs.placements.judge_placements.Given as goal

abbrev pub invariant-loop-i : goal.invariant-loop-i
invariant-loop-i l = placements_rule (placements l.places l.m) ≡ places_from (take l.i (ids l.places place_width l.m)) (placements_from l.places (l.m - l.i) l.i)
