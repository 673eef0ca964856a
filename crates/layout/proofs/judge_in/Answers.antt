-- 3 to 23 and then 24 to 35 are the rule book's chain (`Chained`).
use native.Mathlib.Omega.{arith}
use mathlib.Core.Path.{refl, sym, ◌∙◌}
use Rattle.answers.proofs.Judging.{refused-not}
use Rattle.rules.specs.Judge.{segments_in, placements_in}
use Rattle.rules.specs.Lent.{tables_in}
use Rattle.incoming.proofs.Chains.{incoming-once}
use Rattle.layout.proofs.Chained.{given, refused-early, refused-empty, judged-late, no-segments}
use Rattle.layout.proofs.judge_in.Goals as goal

pub judge_incoming-requires : goal.judge_incoming-requires
judge_incoming-requires c = given c.args.w.now (tables_in c.args.layout.now) c.requires

pub returns-in_err-judge_incoming : goal.returns-in_err-judge_incoming
returns-in_err-judge_incoming c = let t = tables_in c.args.layout.now in record { value = grind (arith, refused-early c.args.epoch c.args.size c.args.limits (segments_in t) (placements_in t) _ c.judge_incoming.ensures.value _ c.in_err-judge_incoming.was); laid_out = λ ok. grind arith; same_length = c.judge_incoming.auto.w }

pub returns-then-n-eq0 : goal.returns-then-n-eq0
returns-then-n-eq0 c = let t = tables_in c.args.layout.now in record { value = refused-empty c.args.epoch c.args.size c.args.limits (segments_in t) (placements_in t) _ c.judge_incoming.ensures.value _ c.in_ok-judge_incoming.was (no-segments t.rows t.edges _ c.if-n-eq0.true) refl; laid_out = λ ok. refused-not _ _ refl ok; same_length = c.judge_incoming.auto.w }

pub judge_laid-requires : goal.judge_laid-requires
judge_laid-requires c = let t = tables_in c.args.layout.now in record { indexed = record { counts = c.requires.counts; no-twins = incoming-once c.args.epoch c.args.size c.args.limits t.rows t.edges _ (placements_in t) (sym c.judge_incoming.ensures.value ∙ c.in_ok-judge_incoming.was); ready = c.judge_incoming.ensures.ready c.in_ok-judge_incoming.was }; rows = omega (arith, c.if-n-eq0.false); room = omega (arith, c.requires.room, c.judge_incoming.auto.w) }

pub returns : goal.returns
returns c = let t = tables_in c.args.layout.now in record { value = judged-late c.args.epoch c.args.size c.args.limits (segments_in t) (placements_in t) _ c.judge_incoming.ensures.value _ c.in_ok-judge_incoming.was c.judge_laid.ensures.value; laid_out = c.judge_laid.ensures.laid_out; same_length = c.judge_laid.auto.w ∙ c.judge_incoming.auto.w }
