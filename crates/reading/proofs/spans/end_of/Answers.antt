-- `reading::spans::end_of` meets its contract. The invariant: the part ends at the same place, seen from here.
use native.Mathlib.Omega.{arith}
use mathlib.Core.Path.{◌≡◌, ◌∙◌}
use Rattle.reading.proofs.Parts.{ends-here, ends-later, ends_last}
use Rattle.reading.proofs.spans.end_of.Goals as goal

pub returns-then-text-i : goal.returns-then-text-i
returns-then-text-i c = search ends-here

pub loop-i-preserved : goal.loop-i-preserved
loop-i-preserved c = (omega arith, search ends-later)

pub returns : goal.returns
returns c =
    let last : c.max.result ≡ c.loop-i.i = omega arith in
    last ∙ ends_last _ _ _ _ c.loop-i-test.false c.loop-i.invariant.1
