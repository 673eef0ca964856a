-- `words::copy` meets its contract: a part as long as the whole is all of it.
use mathlib.Core.Path.{◌∙◌}
use Rattle.words.proofs.PartLaws.{put_all}
use Rattle.words.proofs.copy.Goals as goal

pub returns : goal.returns
returns c =
    c.copy_into.ensures ∙ put_all c.args.dst.now c.args.src.now c.requires
