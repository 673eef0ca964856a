-- `is_tiled` is `tiled_by`: the ranges that were placed are those of the rule, and `covers` says whether they tile.
use Rattle.std.proofs.Common.{arith, ap, ◌∙◌}
use Rattle.sorts.proofs.RowLaws.{rows_take}
use Rattle.rules.specs.Tiling.{tiles}
use Rattle.transitions.proofs.tile.is_tiled.Goals as goal

pub returns : goal.returns
returns c =
    c.covers.ensures ∙ ap (tiles _ _) (rows_take c.place_listed-k.result c.place_listed-k.new.scratch (omega (arith, c.place_listed-k.ensures.few, c.requires.fits)) ∙ c.place_listed-k.ensures.placed)
