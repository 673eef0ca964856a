-- `reading::kept::is_lone_zero` meets its contract, by its tests.
use Rattle.std.proofs.Common.{sym, ◌∙◌, arith, leb-true, eqb-true}
use Rattle.std.proofs.lemmas.Bool.{eqb-false}
use Rattle.reading.proofs.Keeping.{zero-short, zero-other, zero-lone}
use Rattle.reading.proofs.kept.is_lone_zero.Goals as goal
use Rattle.reading.proofs.kept.is_lone_zero.Goals.{then-n-ge2, else-n-ge2}

pub returns-then-line-n-eq48 : goal.returns-then-line-n-eq48
returns-then-line-n-eq48 c = elim c.if-n-ge2.branch [
  | then-n-ge2 w ↦
      zero-lone _ _ c.requires w.if-n-ge2.true _ (eqb-true _ _ (sym w.value-is ∙ c.if-line-n-eq48.true)) c.is_edge.ensures
  | else-n-ge2 w ↦ absurd (omega (arith, leb-true _ _ (sym w.value-is ∙ c.if-line-n-eq48.true)))
]

pub returns-else-line-n-eq48 : goal.returns-else-line-n-eq48
returns-else-line-n-eq48 c = elim c.if-n-ge2.branch [
  | then-n-ge2 w ↦
      c.if-line-n-eq48.false ∙ zero-other _ _ c.requires w.if-n-ge2.true (eqb-false _ _ (sym w.value-is ∙ c.if-line-n-eq48.false))
  | else-n-ge2 w ↦ c.if-line-n-eq48.false ∙ zero-short _ _ c.requires w.if-n-ge2.false
]
