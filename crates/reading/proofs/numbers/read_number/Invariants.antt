-- `reading::numbers::read_number` meets its contract. The invariant: what is read from here on is what the whole field spells.
use Rattle.std.specs.Prelude.{Some}
use mathlib.Core.Path.{◌≡◌}
use Prim.Native.Nat.{◌≤◌}
use lib.ListN.{length, drop}
use Rattle.reading.specs.Numbers.{number_of, onward}
use Rattle.reading.proofs.numbers.read_number.Given as goal

abbrev pub invariant-loop-b : goal.invariant-loop-b
invariant-loop-b l = (l.b-index ≤ length l.field) × (onward (Some l.number) (drop l.b-index l.field) ≡ number_of l.field)
