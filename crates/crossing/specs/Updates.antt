-- The answer of an update as a struct of numbers that crosses to C.
-- Assumes nothing.
use Rattle.std.specs.Prelude.{ℕ}
use Rattle.answers.specs.Answer.{words_of}
use Rattle.answers.specs.declared.RefusalWords.{RefusalWords}
use Rattle.answers.specs.declared.DagChangeReason.{DagChangeReason}
use Rattle.answers.specs.declared.DagChangeReason.TheVariants.{Split, Merge, SegmentRemoved, Unknown}
use Rattle.answers.specs.Updates.{UpdateAnswer}
use Rattle.answers.specs.Updates as U
use Rattle.crossing.specs.declared.updated.UpdatedWords.{UpdatedWords}
use Rattle.crossing.specs.Told.{no_refusal}

-- "Reason: split, merge, removed, unknown"
abbrev pub reason_number : DagChangeReason → ℕ
reason_number Split = 0
reason_number Merge = 1
reason_number SegmentRemoved = 2
reason_number Unknown = 3

-- 0 refused, 1 stale, 2 accepted
abbrev pub unchanged_words : ℕ → RefusalWords → UpdatedWords
unchanged_words outcome refusal =
    record { outcome = outcome; refusal = refusal; epoch = 0; added = 0; removed = 0; splits = 0; merges = 0; reason = 0; handover = 0 }

abbrev pub updated_words : UpdateAnswer → UpdatedWords
updated_words (U.Refused r) = unchanged_words 0 (words_of r)
updated_words U.Stale = unchanged_words 1 no_refusal
updated_words (U.Accepted d) =
    record {
      outcome = 2;
      refusal = no_refusal;
      epoch = d.epoch;
      added = d.added;
      removed = d.removed;
      splits = d.splits;
      merges = d.merges;
      reason = reason_number d.reason;
      handover = d.handover;
    }
