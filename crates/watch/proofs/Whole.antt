-- How an update went, and what it leaves, at each way out of the core.
-- Assumes nothing.
use Prim.Native.Nat.{ℕ, ◌/◌}
use mathlib.Core.Path.{◌≡◌, refl, sym, ap, ◌∙◌}
use mathlib.Core.Bool.{Bool, true, false}
use mathlib.Core.List.{List}
use lib.ListN.{length}
use Rattle.answers.specs.declared.Refusal.{Refusal}
use Rattle.answers.specs.Updates.{UpdateAnswer}
use Rattle.answers.specs.Updates as U
use Rattle.types.specs.declared.limits.DagLimits.{DagLimits}
use Rattle.types.specs.declared.records.Session.{Session}
use Rattle.types.specs.declared.records.Update.{Update}
use Rattle.rules.specs.Tables.{row_width}
use Rattle.rules.specs.Judge.{Tables, Areas, segments_in, filled}
use Rattle.rules.specs.Update.{Changes, Went, refused_before, stale, judged, held_count, held_edge_count, address_rule, is_stale, replace_rule, went, held_before, updated_of, session_with, session_after, if_accepted, changed, past_update_room, update_work_after, update_after}
use Rattle.replacing.specs.Lent.{Replaced}
use Rattle.envelope.specs.Parts.{session_holding, session_if}
use Rattle.watch.specs.Owed.{Owed}
use Rattle.answers.specs.Answer.{Judged, Accepted, Refused}

module _ (s : Session) (u : Update) (limits : DagLimits) (t : Tables) (work : List ℕ) (a : Areas) (c : Changes) where
  abbrev before : List ℕ
  before = held_before (held_count s) a

  -- what is owed, by how it went
  owed-by : (w : Went) → went s u limits t (length work) a c ≡ w → (v : UpdateAnswer) (s' : Session) (work' : List ℕ) (a' : Areas) (c' : Changes)
      → v ≡ updated_of w u.epoch before (segments_in t)
      → s' ≡ session_after w s u t
      → work' ≡ update_work_after w (past_update_room (held_count s) (held_edge_count s) t (length work) a c) work
      → a' ≡ if_accepted w (filled limits t a) a
      → c' ≡ if_accepted w (changed before (segments_in t) c) c
      → Owed s u limits t work a c v s' work' a' c'
  unfolding update_after
  owed-by w e v s' work' a' c' ev es ew ea ec =
      record {
        answer = ev ∙ ap (λ (k : Went). updated_of k u.epoch before (segments_in t)) (sym e);
        session = es ∙ ap (λ (k : Went). session_after k s u t) (sym e);
        cleared = ew ∙ ap (λ (k : Went). update_work_after k (past_update_room (held_count s) (held_edge_count s) t (length work) a c) work) (sym e);
        areas = ea ∙ ap (λ (k : Went). if_accepted k (filled limits t a) a) (sym e);
        lists = ec ∙ ap (λ (k : Went). if_accepted k (changed before (segments_in t) c) c) (sym e);
      }

  module _ (j : Judged) (said : j ≡ address_rule s u) where
    went-refused : (r : Refusal) → j ≡ Refused r → went s u limits t (length work) a c ≡ refused_before r
    unfolding went
    went-refused r told = let e : address_rule s u ≡ Refused r = sym said ∙ told in rw e refl

    -- 40, 41, 42
    pub refused : (r : Refusal) → j ≡ Refused r → Owed s u limits t work a c (U.Refused r) s work a c
    refused r told = owed-by (refused_before r) (went-refused r told) _ _ _ _ _ refl refl refl refl refl

    module _ (addressed : j ≡ Accepted) (b : Bool) (asked : b ≡ is_stale s u) where
      heard : address_rule s u ≡ Accepted
      heard = sym said ∙ addressed

      went-stale : b ≡ true → went s u limits t (length work) a c ≡ stale
      unfolding went
      went-stale is = let e : is_stale s u ≡ true = sym asked ∙ is in rw (heard, e) refl

      went_on : b ≡ false → went s u limits t (length work) a c ≡ judged (replace_rule (held_count s) (held_edge_count s) u.epoch u.size limits t (length work) a c)
      unfolding went
      went_on is = let e : is_stale s u ≡ false = sym asked ∙ is in rw (heard, e) refl

      pub old : b ≡ true → Owed s u limits t work a c U.Stale s work a c
      old is = owed-by stale (went-stale is) _ _ _ _ _ refl refl refl refl refl

      holding : session_holding s u (length t.rows / row_width) (length t.edges) ≡ session_with s u t
      unfolding session_holding
      holding = refl

      session-is : (k : Judged) → session_if (updated_of (judged k) u.epoch before (segments_in t)) (session_holding s u (length t.rows / row_width) (length t.edges)) s ≡ session_after (judged k) s u t
      session-is Accepted = holding
      session-is (Refused r) = refl

      -- 1 to 35, and acceptance
      pub new : b ≡ false → (h g : ℕ) → h ≡ held_count s → g ≡ held_edge_count s
          → (v : UpdateAnswer) (s' : Session) (work' : List ℕ) (a' : Areas) (c' : Changes)
          → Replaced h g u.epoch u.size limits t work a c v work' a' c'
          → s' ≡ session_if v (session_holding s u (length t.rows / row_width) (length t.edges)) s
          → Owed s u limits t work a c v s' work' a' c'
      new is h g eh eg v s' work' a' c' given es =
          let p : Replaced (held_count s) (held_edge_count s) u.epoch u.size limits t work a c v work' a' c' = rw (eh, eg) at given in
          let rule : Judged = replace_rule (held_count s) (held_edge_count s) u.epoch u.size limits t (length work) a c in
          let by_answer : s' ≡ session_after (judged rule) s u t = es ∙ ap (λ (q : UpdateAnswer). session_if q (session_holding s u (length t.rows / row_width) (length t.edges)) s) p.answer ∙ session-is rule in
          owed-by (judged rule) (went_on is) v s' work' a' c' p.answer by_answer p.cleared p.areas p.lists
