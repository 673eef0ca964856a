-- `copy_site` meets its contract: the placement row is copied, its id becomes the flag, and the optional field is fixed inside the copy.
use mathlib.Core.Path.{refl}
use Rattle.image.proofs.Words.{site-copied}
use Rattle.image.proofs.row.copy_site.Goals as goal

pub returns : goal.returns
returns c = site-copied c.args.w.now c.args.places.now c.args.at c.args.from c.requires.site_fits c.requires.places_in_table c.copy_into.new.dst _ c.fix_option.new.w c.copy_into.ensures refl c.fix_option.ensures
