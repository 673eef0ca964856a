-- `printing::fields::last_number` meets its contract: each need is arithmetic, a law that is imported, or what a callee promised.
use mathlib.Core.List.{[], ◌∷◌}
use Rattle.printing.proofs.LineLaws.{field}
use Rattle.printing.proofs.fields.last_number.Goals as goal

pub returns : goal.returns
returns c =
    field [] (10 ∷ []) c.field_number-p.ensures c.put_byte.ensures
