-- `describe` meets its contract: what the judgement of the words refuses, the rule refuses.
use native.Mathlib.Omega.{arith}
use Rattle.segment.proofs.Descriptors.{described_refused}
use Rattle.segment.proofs.descriptor.describe.Goals as goal

pub returns-in_err-judge_words : goal.returns-in_err-judge_words
returns-in_err-judge_words c = grind (arith, described_refused c.args.info c.args.placed _ c.judge_words.ensures)
