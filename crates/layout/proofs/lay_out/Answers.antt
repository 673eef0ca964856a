-- The image that is written is the layout's.
use Rattle.rules.specs.Lent.{tables_in}
use Rattle.layout.proofs.Copied.{imaged}
use Rattle.layout.proofs.lay_out.Goals as goal

pub returns-clause-image_of : goal.returns-clause-image_of
returns-clause-image_of c = imaged _ _ (tables_in c.args.layout.now) c.requires c.write_image.ensures
