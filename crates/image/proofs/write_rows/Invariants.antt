-- `write_rows` meets its contract: after p turns the words of the first p keys stand at the front, and both indexes are as they were.
use Prim.Native.Nat.{◌≤◌, ◌-◌, ◌*◌}
use mathlib.Core.Path.{◌≡◌}
use lib.ListN.{length, take}
use Rattle.words.specs.Part.{put}
use Rattle.rules.specs.Tables.{held_width, placements}
use Rattle.indexes.specs.Index.{segment_index}
use Rattle.image.specs.Written.{key_rows, Ready}
use Rattle.image.proofs.write_rows.Given as goal

abbrev pub invariant-loop-p : goal.invariant-loop-p
invariant-loop-p l =
    (l.p ≤ l.n) × (length l.w ≡ length l.initial.w) × (l.w ≡ put l.initial.w 0 (l.p * held_width) (key_rows l.table (placements l.places l.m) (take l.p (segment_index l.table l.n))))
    × Ready l.w l.table l.n l.places l.m l.a l.b
