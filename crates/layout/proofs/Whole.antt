-- The chain of the whole judgement, and what it leaves in each lent area, at each way out of the call.
-- Assumes nothing.
use Prim.Native.Nat.{ℕ}
use mathlib.Core.Path.{◌≡◌, refl, sym, ap, ◌∙◌}
use mathlib.Core.Bool.{Bool, true, false}
use mathlib.Core.List.{List}
use lib.ListN.{length, replicate}
use Rattle.answers.specs.Answer.{Judged, Accepted, Refused}
use Rattle.types.specs.declared.limits.DagLimits.{DagLimits}
use Rattle.rules.specs.Shape.{bad_layout}
use Rattle.rules.specs.Layout.{layout_rule}
use Rattle.rules.specs.Judge.{Tables, Areas, segments_in, placements_in, short_to_judge, judgement, filled, areas_after, past_room}
use Rattle.shape.proofs.Good.{layout-counts}
use Rattle.shape.proofs.Enough.{Judge, enough-to-judge}
use Rattle.layout.specs.Laid.{row_count, place_count, edge_count, Fit, LaidOut, Holds, stored_from}
use Rattle.layout.specs.Lent.{Owed}
use Rattle.answers.specs.declared.Refusal.TheVariants.{BadTable, NoRoom}

module _ (epoch size : ℕ) (limits : DagLimits) (t : Tables) (work : List ℕ) (a : Areas) (x : Bool) (said : x ≡ bad_layout t.rows t.edges t.places) where
  -- 1
  pub bad : (v : Judged) → x ≡ true → v ≡ Refused BadTable → Owed epoch size limits t work a v work a
  unfolding judgement past_room
  bad v is e =
      let told : bad_layout t.rows t.edges t.places ≡ true = sym said ∙ is in
      record { answer = rw (told, e); cleared = rw told; areas = rw told }

  module _ (good : x ≡ false) (y : Bool) (asked : y ≡ short_to_judge t (length work) a) where
    fine : bad_layout t.rows t.edges t.places ≡ false
    fine = sym said ∙ good

    -- 2
    pub short : (v : Judged) → y ≡ true → v ≡ Refused NoRoom → Owed epoch size limits t work a v work a
    unfolding judgement past_room
    short v is e =
        let told : short_to_judge t (length work) a ≡ true = sym asked ∙ is in
        record { answer = rw (fine, told, e); cleared = rw (fine, told); areas = rw (fine, told) }

    module _ (roomy : y ≡ false) where
      enough : Judge (length work) (length a.held) (length a.links) (length a.order) (row_count t) (place_count t) (edge_count t)
      enough = enough-to-judge _ _ _ _ _ _ _ y asked roomy

      -- what judging in the work area asks, once 1 and 2 have passed
      pub fit : Fit t (length work)
      fit = record { counts = layout-counts t.rows t.edges t.places x said good; room = enough.for-work }

      -- and storing
      pub holds : Holds (row_count t) (edge_count t) a
      holds = record { rows = enough.for-held.for-rows; edges = enough.for-held.for-edges; order = enough.for-held.for-order }

      -- 3 to 35: j was judged in the work area, which was then w
      module _ (j : Judged) (w : List ℕ) (is : j ≡ layout_rule epoch size limits (segments_in t) (placements_in t)) (laid : j ≡ Accepted → LaidOut w t limits.depth) where
        whole : judgement epoch size limits t (length work) a ≡ j
        unfolding judgement
        whole = let told : short_to_judge t (length work) a ≡ false = sym asked ∙ roomy in rw (fine, told) (sym is)

        past : past_room t (length work) a ≡ true
        unfolding past_room
        past = let told : short_to_judge t (length work) a ≡ false = sym asked ∙ roomy in rw (fine, told)

        areas-are : areas_after j (stored_from w (row_count t) (edge_count t) a) a ≡ areas_after (judgement epoch size limits t (length work) a) (filled limits t a) a
        unfolding filled
        areas-are = go j refl ∙ ap (λ (k : Judged). areas_after k (filled limits t a) a) (sym whole)
          where
            go : (k : Judged) → j ≡ k → areas_after k (stored_from w (row_count t) (edge_count t) a) a ≡ areas_after k (filled limits t a) a
            go Accepted s = let l : LaidOut w t limits.depth = laid s in rw (l.imaged.rows, l.imaged.edges, l.order) refl
            go (Refused r) s = refl

        pub past_room_lem : (v : Judged) (work' : List ℕ) (a' : Areas) → v ≡ j → work' ≡ replicate (length w) 0 → length w ≡ length work
            → a' ≡ areas_after j (stored_from w (row_count t) (edge_count t) a) a
            → Owed epoch size limits t work a v work' a'
        past_room_lem v work' a' e z same stored =
            record { answer = e ∙ sym whole; cleared = z ∙ (rw (past, same) refl); areas = stored ∙ areas-are }
