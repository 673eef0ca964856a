-- `printing::updates::field_reason` meets its contract: each need is arithmetic, a law that is imported, or what a callee promised.
use mathlib.Core.List.{[], ◌∷◌}
use mathlib.Core.Path.{ap}
use Prim.Native.Nat.{ℕ}
use Rattle.texts.proofs.Writing.{on, said}
use Rattle.printing.proofs.updates.field_reason.Goals as goal

pub returns : goal.returns
returns c =
    said
    (ap (λ (x : ℕ). 32 ∷ x ∷ []) c.reason_letter-letter.ensures)
    (on c.put_byte-p.ensures c.put_byte.ensures)
