-- `reading::spans::field_at` meets its contract. The invariant: the field that is looked for is the one of that number from here on.
use mathlib.Core.Path.{◌≡◌}
use mathlib.Core.List.{[]}
use Prim.Native.Nat.{◌≤◌, ◌-◌}
use lib.ListN.{length, get_or, drop}
use Rattle.reading.specs.Fields.{fields_of}
use Rattle.reading.proofs.spans.field_at.Given as goal

abbrev pub invariant-loop : goal.invariant-loop
invariant-loop l =
    (l.from ≤ length l.line)
    × (get_or (fields_of (drop l.from l.line)) (l.number - l.counter) [] ≡ get_or (fields_of l.line) l.number [])
