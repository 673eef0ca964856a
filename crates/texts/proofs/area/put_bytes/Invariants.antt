-- `texts::area::put_bytes` meets its contract: each need is arithmetic, a law that is imported, or what a callee promised.
use Prim.Native.Nat.{◌≤◌}
use lib.ListN.{length, take}
use mathlib.Core.Path.{◌≡◌}
use Rattle.texts.specs.Written.{Wrote}
use Rattle.texts.proofs.area.put_bytes.Given as goal

abbrev pub invariant-loop-byte : goal.invariant-loop-byte
invariant-loop-byte l = (l.byte-index ≤ length l.bytes) × (length l.out ≡ length l.initial.out) × Wrote l.initial.out l.at (take l.byte-index l.bytes) l.out l.p
