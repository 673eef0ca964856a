-- The image stays while it is judged, and the order comes behind it.
use native.Mathlib.Omega.{arith}
use mathlib.Core.Path.{◌∙◌}
use Rattle.rules.specs.Lent.{tables_in}
use Rattle.layout.specs.Laid.{graph_chain}
use Rattle.layout.proofs.Chained.{laid_out}
use Rattle.layout.proofs.judge_laid.Goals as goal

pub returns : goal.returns
unfolding graph_chain
returns c =
    record {
      value = c.judge_image.ensures.value;
      laid_out = λ ok. laid_out c.lay_out.new.w c.judge_image.new.w (tables_in c.args.layout.now) c.args.depth c.lay_out.ensures.image_of c.judge_image.ensures.w_unchanged c.judge_image.auto.w (omega (arith, c.requires.room, c.lay_out.auto.w)) c.requires.rows (c.judge_image.ensures.n_after ok);
      same_length = c.judge_image.auto.w ∙ c.lay_out.auto.w;
    }
