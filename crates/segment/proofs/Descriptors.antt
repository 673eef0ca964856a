-- The held row, field by field, and what the descriptor call answers: the judgement over the row's words is the rule's, by computation.
-- Assumes nothing.
use mathlib.Core.Path.{◌≡◌, refl}
use Rattle.std.specs.Prelude.{Ok, Err}
use Rattle.answers.specs.declared.Refusal.{Refusal}
use Rattle.types.specs.declared.records.Optional.{Optional}
use Rattle.types.specs.declared.records.SegmentInfo.{SegmentInfo}
use Rattle.types.specs.declared.records.SegmentDescriptor.{SegmentDescriptor}
use Rattle.rules.specs.Descriptor.{Placed, bad_info, describe_rule, held_option, held_info, url_of, tls_of, descriptor_of, describe}
use Rattle.segment.specs.Words.{bad_words, joined_descriptor, words_rule}
use Rattle.answers.specs.Answer.{Judged, Accepted, Refused}

abbrev info_with : SegmentInfo → Optional → Optional → SegmentInfo
info_with i sealed legacy =
    record {
      id = i.id;
      start = i.start;
      end = i.end;
      state = i.state;
      created = i.created;
      sealed = sealed;
      legacy = legacy;
      parents = i.parents;
      children = i.children;
    }

pub info-held : (i : SegmentInfo) (s l : Optional) → s ≡ held_option i.sealed → l ≡ held_option i.legacy → info_with i s l ≡ held_info i
info-held i s l es el = λ k. info_with i (es k) (el k)

-- the judgement over the words of the row i
abbrev judged_row : SegmentInfo → Placed → Judged
judged_row i p = words_rule i.id.0 i.start i.end i.state i.sealed.flag i.legacy p

words-rule : (i : SegmentInfo) (p : Placed) → judged_row i p ≡ describe_rule i p
unfolding bad_info describe_rule bad_words joined_descriptor words_rule
words-rule i p = refl

module _ (i : SegmentInfo) (p : Placed) where
  pub row-held : (h : SegmentInfo) (u t : Optional) → h ≡ held_info i → u ≡ url_of p → t ≡ tls_of p
      → ◌≡◌ {A = SegmentDescriptor} (record { info = h; url = u; tls = t }) (descriptor_of i p)
  row-held h u t eh eu et = λ k. record { info = eh k; url = eu k; tls = et k }

  module _ (j : Judged) (said : j ≡ judged_row i p) where
    pub described_refused : (r : Refusal) → j ≡ Refused r → Err r ≡ describe i p
    unfolding describe
    described_refused r told = rw (← words-rule i p, ← said, told)

    pub described_held : (d : SegmentDescriptor) → j ≡ Accepted → d ≡ descriptor_of i p → Ok d ≡ describe i p
    unfolding describe
    described_held d told held = rw (← words-rule i p, ← said, told, held)
