-- `write_edges` meets its contract: after p turns the edges of the first p keys stand behind the rows, `at` is the place behind them, and
use Prim.Native.Nat.{◌≤◌, ◌+◌, ◌-◌, ◌*◌}
use mathlib.Core.Path.{◌≡◌}
use lib.ListN.{length, take}
use Rattle.words.specs.Part.{part, put}
use Rattle.rules.specs.Tables.{held_width}
use Rattle.indexes.specs.Index.{segment_index}
use Rattle.image.specs.Written.{key_edges, Indexed}
use Rattle.image.proofs.Edges.{count_of}
use Rattle.image.proofs.write_edges.Given as goal

abbrev pub invariant-loop-p : goal.invariant-loop-p
invariant-loop-p l = (l.p ≤ l.n) × (length l.w ≡ length l.initial.w) × Indexed (part l.w l.a (3 * l.n)) l.table l.n × (l.at ≡ l.n * held_width + count_of l.table (take l.p (segment_index l.table l.n)))
    × (l.w ≡ put l.initial.w (l.n * held_width) (count_of l.table (take l.p (segment_index l.table l.n))) (key_edges l.table l.edges (take l.p (segment_index l.table l.n))))
