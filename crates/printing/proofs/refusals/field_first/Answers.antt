-- `printing::refusals::field_first` meets its contract: each need is arithmetic, a law that is imported, or what a callee promised.
use mathlib.Core.Path.{ap}
use mathlib.Core.List.{List, ◌∷◌}
use Prim.Native.Nat.{ℕ}
use borrow.Author.Rules.{rules}
use Rattle.texts.proofs.Writing.{on, said}
use Rattle.printing.proofs.LineLaws.{first_signed, first_plain}
use Rattle.printing.proofs.refusals.field_first.Goals as goal

pub returns-then-r-eq41 : goal.returns-then-r-eq41
returns-then-r-eq41 c =
    said
    (ap (λ (l : List ℕ). 32 ∷ l) (first_signed c.args.r (search rules)))
    (on c.put_byte-p.ensures c.put_signed.ensures)

pub returns : goal.returns
returns c =
    said
    (ap (λ (l : List ℕ). 32 ∷ l) (first_plain c.args.r (search rules)))
    (on c.put_byte-p.ensures c.put_number.ensures)
