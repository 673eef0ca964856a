-- `words::copy_into` meets its contract: after i turns the first i words are there.
use mathlib.Core.Path.{◌≡◌}
use Rattle.words.specs.Part.{put}
use lib.ListN.{take}
use Rattle.words.proofs.copy_into.Given as goal

abbrev pub invariant-loop-i : goal.invariant-loop-i
invariant-loop-i l = l.dst ≡ put l.initial.dst l.at l.i (take l.i l.src)
