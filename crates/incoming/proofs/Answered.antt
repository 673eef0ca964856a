-- What `judge_incoming` answers, from what its callees did: the answer is that of `incoming_rule` whichever rule refuses first.
-- By the laws of `then`, and since there are as many segments as rows. Assumes nothing.
use Prim.Native.Nat.{ℕ}
use mathlib.Core.Path.{◌≡◌, refl}
use mathlib.Core.List.{List}
use lib.ListN.{length}
use Rattle.answers.specs.declared.Refusal.{Refusal}
use Rattle.types.specs.declared.limits.DagLimits.{DagLimits}
use Rattle.rules.specs.Model.{Segment, Placement}
use Rattle.rules.specs.Tables.{segments, placements}
use Rattle.rules.specs.Rows.{size_rule, placements_rule, rows_rule, dangling_rule}
use Rattle.incoming.specs.Incoming.{incoming_rule}
use Rattle.incoming.proofs.Counts.{segments-count, placements-count}
use Rattle.answers.specs.Answer.{Judged, Accepted, Refused}

module _ (epoch size : ℕ) (limits : DagLimits) (table edges : List ℕ) (n : ℕ) (places : List ℕ) (m : ℕ) (x : Judged) (sized : x ≡ size_rule limits size n m) where
  abbrev ss : List Segment
  ss = segments table edges n

  abbrev ps : List Placement
  ps = placements places m

  sizes : x ≡ size_rule limits size (length ss) (length ps)
  sizes = rw (segments-count table edges n, placements-count places m) sized

  pub sizes-refused : (r : Refusal) → x ≡ Refused r → x ≡ incoming_rule epoch size limits (segments table edges n) (placements places m)
  unfolding incoming_rule
  sizes-refused r e = rw (← sizes, e) refl

  module _ (fit : x ≡ Accepted) (y : Judged) (placed : y ≡ placements_rule (placements places m)) where
    pub places-refused : (r : Refusal) → y ≡ Refused r → y ≡ incoming_rule epoch size limits (segments table edges n) (placements places m)
    unfolding incoming_rule
    places-refused r e = rw (← sizes, fit, ← placed, e) refl

    module _ (known : y ≡ Accepted) (z : Judged) (listed : z ≡ rows_rule epoch limits.edges (segments table edges n)) where
      pub rows-refused : (r : Refusal) → z ≡ Refused r → z ≡ incoming_rule epoch size limits (segments table edges n) (placements places m)
      unfolding incoming_rule
      rows-refused r e = rw (← sizes, fit, ← placed, known, ← listed, e) refl

      pub all-judged : z ≡ Accepted → (v : Judged) → v ≡ dangling_rule (segments table edges n) (placements places m) → v ≡ incoming_rule epoch size limits (segments table edges n) (placements places m)
      unfolding incoming_rule
      all-judged e v q = rw (← sizes, fit, ← placed, known, ← listed, e) q
