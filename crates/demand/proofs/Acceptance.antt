-- What an accepted layout leaves: held tables that pass refusal 1, of segments that demand 3 speaks of; whether the judge accepted it or an update.
-- By the chain of checks that let it pass, link by link. Assumes nothing.
use Prim.Native.Nat.{ℕ, ◌/◌}
use native.Mathlib.Omega.{arith}
use mathlib.Core.Path.{◌≡◌, refl}
use mathlib.Core.Bool.{Bool, true, false}
use mathlib.Core.List.{List}
use lib.ListN.{length}
use Rattle.answers.specs.declared.DagDelta.{DagDelta}
use Rattle.answers.specs.Answer as J
use Rattle.answers.specs.Updates as U
use Rattle.answers.specs.Answer.{when, ◌then◌, Judged, Refused}
use Rattle.answers.proofs.Judging.{or_left}
use Rattle.types.specs.declared.limits.DagLimits.{DagLimits}
use Rattle.types.specs.declared.records.Session.{Session}
use Rattle.types.specs.declared.records.Update.{Update}
use Rattle.rules.specs.Model.{Segment}
use Rattle.rules.specs.Tables.{row_width, place_width, held_segments}
use Rattle.rules.specs.Shape.{bad_layout, bad_held}
use Rattle.rules.specs.Room.{no_room_to_judge}
use Rattle.rules.specs.Layout.{layout_rule}
use Rattle.rules.specs.Judge.{Tables, Areas, segments_in, placements_in, judgement, filled}
use Rattle.rules.specs.Update.{Changes, held_count, held_edge_count, Went, refused_before, stale, judged, address_rule, is_stale, bad_tables, short_to_update, replace_rule, went_after, went, updated_of, held_before, update_after}
use Rattle.rules.specs.Reading.{Accepted}
use Rattle.answers.proofs.Judging.{then-both, when-not}
use Rattle.rules.proofs.Accepts.{rows-once, layout-passes, layout-accepted}
use Rattle.demand.specs.Demand.{HeldTables, held_in, Left, by_judge, by_update}
use Rattle.demand.proofs.Passes.{held-are, held-pass}
use Rattle.answers.specs.declared.Refusal.TheVariants.{BadTable, NoRoom}

-- what the ordering call needs of held tables for demand 3
pub record Sound (T : HeldTables) : Type 0 where
  pub pass : bad_held T.rows T.edges T.h T.g ≡ false
  pub accepted : Accepted (held_segments T.rows T.edges T.h)

-- ---- a layout whose tables are not bad and that the rules accept

module _ (epoch size : ℕ) (limits : DagLimits) (t : Tables) (a : Areas) (good : bad_layout t.rows t.edges t.places ≡ false)
    (rule : layout_rule epoch size limits (segments_in t) (placements_in t) ≡ J.Accepted) where
  pub filled-sound : Sound (held_in (filled limits t a) (length t.rows / row_width) (length t.edges))
  filled-sound =
      record {
        pass = held-pass limits t a good (λ z. rows-once epoch limits.edges z (segments_in t) (layout-passes epoch size limits (segments_in t) (placements_in t) rule).rows);
        accepted = rw (held-are limits t a good) (layout-accepted epoch size limits (segments_in t) (placements_in t) rule);
      }

-- ---- past 1 and 2

past_two : (one two : Bool) (j : Judged) → (when one (Refused BadTable) then when two (Refused NoRoom) then j) ≡ J.Accepted → (one ≡ false) × (j ≡ J.Accepted)
past_two one two j e =
    let a = then-both (when one (Refused BadTable)) (when two (Refused NoRoom) then j) e in
    (when-not one _ a.0, (then-both (when two (Refused NoRoom)) j a.1).1)

judge-sound : (epoch size : ℕ) (limits : DagLimits) (t : Tables) (work : ℕ) (a : Areas) → judgement epoch size limits t work a ≡ J.Accepted
    → Sound (held_in (filled limits t a) (length t.rows / row_width) (length t.edges))
unfolding judgement
judge-sound epoch size limits t work a e =
    let n : ℕ = length t.rows / row_width in
    let p : ℕ = length t.places / place_width in
    let passed =
    past_two (bad_layout t.rows t.edges t.places) (no_room_to_judge work (length a.held) (length a.links) (length a.order) n p (length t.edges))
    (layout_rule epoch size limits (segments_in t) (placements_in t)) e in
    filled-sound epoch size limits t a passed.0 passed.1

-- an update is judged once it is for this session, carries a layout and is not stale
was-judged : (j k : Judged) (old : Bool) → went_after j old k ≡ judged J.Accepted → k ≡ J.Accepted
was-judged (J.Refused r) k old e = let z : ◌≡◌ {A = ℕ} 0 1 = cc in absurd (omega arith)
was-judged J.Accepted k true e = let z : ◌≡◌ {A = ℕ} 0 1 = cc in absurd (omega arith)
was-judged J.Accepted k false e = cc

was-accepted : (w : Went) (epoch : ℕ) (before : List ℕ) (ss : List Segment) (d : DagDelta) → updated_of w epoch before ss ≡ U.Accepted d → w ≡ judged J.Accepted
was-accepted (refused_before r) epoch before ss d e = let z : ◌≡◌ {A = ℕ} 0 1 = cc in absurd (omega arith)
was-accepted stale epoch before ss d e = let z : ◌≡◌ {A = ℕ} 0 1 = cc in absurd (omega arith)
was-accepted (judged (J.Refused r)) epoch before ss d e = let z : ◌≡◌ {A = ℕ} 0 1 = cc in absurd (omega arith)
was-accepted (judged J.Accepted) epoch before ss d e = refl

module _ (s : Session) (u : Update) (limits : DagLimits) (t : Tables) (work : List ℕ) (a : Areas) (c : Changes) (d : DagDelta)
    (e : (update_after s u limits t work a c).answer ≡ U.Accepted d) where
  accepted : went s u limits t (length work) a c ≡ judged J.Accepted
  unfolding update_after
  accepted = was-accepted (went s u limits t (length work) a c) u.epoch (held_before (held_count s) a) (segments_in t) d e

  passed : (bad_layout t.rows t.edges t.places ≡ false) × (layout_rule u.epoch u.size limits (segments_in t) (placements_in t) ≡ J.Accepted)
  unfolding went replace_rule bad_tables
  passed =
      let j : replace_rule (held_count s) (held_edge_count s) u.epoch u.size limits t (length work) a c ≡ J.Accepted = was-judged (address_rule s u) (replace_rule (held_count s) (held_edge_count s) u.epoch u.size limits t (length work) a c) (is_stale s u) accepted in
      let r = past_two (bad_tables (held_count s) (held_edge_count s) t a) (short_to_update (held_count s) t (length work) a c) (layout_rule u.epoch u.size limits (segments_in t) (placements_in t)) j in
      (or_left (bad_layout t.rows t.edges t.places) (bad_held a.held a.links (held_count s) (held_edge_count s)) r.0, r.1)

  update-sound : Sound (held_in (update_after s u limits t work a c).areas (held_count (update_after s u limits t work a c).session) (held_edge_count (update_after s u limits t work a c).session))
  unfolding update_after
  update-sound = rw accepted (filled-sound u.epoch u.size limits t a passed.0 passed.1)

pub left-sound : (T : HeldTables) → Left T → Sound T
left-sound T (by_judge epoch size limits t work a e) = judge-sound epoch size limits t work a e
left-sound T (by_update s u limits t work a c d e) = update-sound s u limits t work a c d e
