-- `printing::fields::last_list` meets its contract: each need is arithmetic, a law that is imported, or what a callee promised.
use mathlib.Core.List.{[], ◌∷◌}
use Rattle.printing.proofs.LineLaws.{field}
use Rattle.printing.proofs.fields.last_list.Goals as goal

pub returns : goal.returns
returns c =
    field [] (10 ∷ []) c.field_list-p.ensures c.put_byte.ensures
