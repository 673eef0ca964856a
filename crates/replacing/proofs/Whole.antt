-- The chain of a replacement, and what it leaves in each lent area and list, at each way out of the call.
-- Assumes nothing.
use Prim.Native.Nat.{ℕ, ◌≤◌}
use native.Mathlib.Omega.{arith}
use mathlib.Core.Path.{◌≡◌, refl, sym, ap, ◌∙◌}
use mathlib.Core.Bool.{Bool, true, false}
use mathlib.Core.List.{List}
use lib.ListN.{length}
use Rattle.answers.specs.declared.Refusal.{Refusal}
use Rattle.answers.specs.Updates.{UpdateAnswer}
use Rattle.answers.specs.Updates as U
use Rattle.answers.specs.Answer.{Judged, Accepted, Refused}
use Rattle.types.specs.declared.limits.DagLimits.{DagLimits}
use Rattle.rules.specs.Model.{Segment, by_id}
use Rattle.rules.specs.Shape.{bad_layout, bad_held}
use Rattle.rules.specs.Delta.{widths_active}
use Rattle.rules.specs.Layout.{layout_rule}
use Rattle.rules.specs.Judge.{Tables, Areas, segments_in, placements_in, filled}
use Rattle.rules.specs.Update.{Changes, judged, bad_tables, short_to_update, replace_rule, held_before, updated_of, if_accepted, changed, past_update_room}
use Rattle.rules.proofs.Accepts.{layout-passes}
use Rattle.rules.proofs.Ascended.{active-by_id}
use Rattle.shape.proofs.Good.{layout-counts, held-fit, held-ascend}
use Rattle.shape.proofs.Enough.{Update, enough-to-update}
use Rattle.tabled.specs.Image.{image_segments}
use Rattle.delta.specs.Changed.{delta_from, changed_from}
use Rattle.delta.proofs.Ruled.{delta-ruled, changed-ruled, covered-handover}
use Rattle.layout.specs.Laid.{row_count, place_count, edge_count, Fit, LaidOut, stored_from}
use Rattle.replacing.specs.Stored.{Room, Storable, answer_of, Finished}
use Rattle.replacing.specs.Lent.{Replaced}
use Rattle.answers.specs.declared.Refusal.TheVariants.{BadTable, NoRoom}

module _ (h g epoch size : ℕ) (limits : DagLimits) (t : Tables) (work : List ℕ) (a : Areas) (c : Changes) where
  abbrev rule : Judged
  rule = replace_rule h g epoch size limits t (length work) a c

  abbrev past : Bool
  past = past_update_room h g t (length work) a c

  -- ---- the chain

  is-bad : bad_tables h g t a ≡ true → (rule ≡ Refused BadTable) × (past ≡ false)
  unfolding replace_rule past_update_room
  is-bad told = (rw told refl, rw told refl)

  module _ (good : bad_tables h g t a ≡ false) where
    is-short : short_to_update h t (length work) a c ≡ true → (rule ≡ Refused NoRoom) × (past ≡ false)
    unfolding replace_rule past_update_room
    is-short told = (rw (good, told) refl, rw (good, told) refl)

    is-judged : short_to_update h t (length work) a c ≡ false → (rule ≡ layout_rule epoch size limits (segments_in t) (placements_in t)) × (past ≡ true)
    unfolding replace_rule past_update_room
    is-judged told = (rw (good, told) refl, rw (good, told) refl)

  bad-first : bad_layout t.rows t.edges t.places ≡ true → bad_tables h g t a ≡ true
  unfolding bad_tables
  bad-first told = rw told refl

  bad-second : bad_layout t.rows t.edges t.places ≡ false → bad_held a.held a.links h g ≡ true → bad_tables h g t a ≡ true
  unfolding bad_tables
  bad-second first told = rw (first, told) refl

  good-both : bad_layout t.rows t.edges t.places ≡ false → bad_held a.held a.links h g ≡ false → bad_tables h g t a ≡ false
  unfolding bad_tables
  good-both first told = rw (first, told) refl

  -- ---- before 3 nothing changes

  unchanged : (r : Refusal) (v : UpdateAnswer) → v ≡ U.Refused r → (rule ≡ Refused r) × (past ≡ false)
      → Replaced h g epoch size limits t work a c v work a c
  unchanged r v e how =
      record { answer = rw (how.0, e); cleared = rw how.1; areas = rw how.0; lists = rw how.0 }

  module _ (x : Bool) (said : x ≡ bad_layout t.rows t.edges t.places) where
    -- 1, by the tables that come
    pub bad : (v : UpdateAnswer) → x ≡ true → v ≡ U.Refused BadTable
        → Replaced h g epoch size limits t work a c v work a c
    bad v is e = unchanged _ v e (is-bad (bad-first (sym said ∙ is)))

    module _ (fine : x ≡ false) (y : Bool) (asked : y ≡ bad_held a.held a.links h g) where
      -- 1, by the tables that are held
      pub bad-old : (v : UpdateAnswer) → y ≡ true → v ≡ U.Refused BadTable
          → Replaced h g epoch size limits t work a c v work a c
      bad-old v is e = unchanged _ v e (is-bad (bad-second (sym said ∙ fine) (sym asked ∙ is)))

      module _ (sound : y ≡ false) (z : Bool) (sized : z ≡ short_to_update h t (length work) a c) where
        good : bad_tables h g t a ≡ false
        good = good-both (sym said ∙ fine) (sym asked ∙ sound)

        -- 2
        pub short : (v : UpdateAnswer) → z ≡ true → v ≡ U.Refused NoRoom → Replaced h g epoch size limits t work a c v work a c
        short v is e = unchanged _ v e (is-short good (sym sized ∙ is))

        module _ (roomy : z ≡ false) where
          enough : Update (length work) (length a.held) (length a.links) (length a.order) (length c.added) (length c.removed) (length c.splits) (length c.merges) (row_count t) (place_count t) (edge_count t) h
          unfolding short_to_update
          enough = enough-to-update _ _ _ _ _ _ _ _ _ _ _ _ z sized roomy

          -- what judging asks
          pub fit : Fit t (length work)
          fit = record { counts = layout-counts t.rows t.edges t.places x said fine; room = omega (arith, enough.for-work) }

          -- and storing
          pub room : Room (row_count t) (edge_count t) h a c
          room =
              record {
                held = record { rows = enough.for-held.for-rows; edges = enough.for-held.for-edges; order = enough.for-held.for-order };
                old = record { room = held-fit a.held a.links h g y asked sound; up = held-ascend a.held a.links h g y asked sound };
                lists = record { added = enough.for-added; removed = enough.for-removed; splits = enough.for-splits; merges = enough.for-merges };
              }

          -- 3 to 35: j was judged in the work area, which was then w
          module _ (j : Judged) (w : List ℕ) (is : j ≡ layout_rule epoch size limits (segments_in t) (placements_in t))
              (laid : j ≡ Accepted → LaidOut w t limits.depth) (same : length w ≡ length work) where
            abbrev n : ℕ
            n = row_count t

            abbrev e : ℕ
            e = edge_count t

            pub storable : j ≡ Accepted → Storable w n e
            storable ok =
                let covered = (layout-passes epoch size limits (segments_in t) (placements_in t) (sym is ∙ ok)).coverage in
                let all : widths_active (by_id (segments_in t)) ≤ 65536 = covered-handover (by_id (segments_in t)) (active-by_id (segments_in t) ∙ covered) in
                record {
                  image = (laid ok).imaged.image;
                  room = omega (arith, enough.for-work, same);
                  widths = rw (laid ok).imaged.segments all;
                }

            whole : rule ≡ j
            whole = (is-judged good (sym sized ∙ roomy)).0 ∙ sym is

            cleared-is : past ≡ true
            cleared-is = (is-judged good (sym sized ∙ roomy)).1

            abbrev before : List ℕ
            before = held_before h a

            areas-are : if_accepted (judged j) (stored_from w n e a) a ≡ if_accepted (judged rule) (filled limits t a) a
            unfolding filled
            areas-are = go j refl ∙ ap (λ (k : Judged). if_accepted (judged k) (filled limits t a) a) (sym whole)
              where
                go : (k : Judged) → j ≡ k → if_accepted (judged k) (stored_from w n e a) a ≡ if_accepted (judged k) (filled limits t a) a
                go Accepted s = let l : LaidOut w t limits.depth = laid s in rw (l.imaged.rows, l.imaged.edges, l.order) refl
                go (Refused r) s = refl

            lists-are : if_accepted (judged j) (changed_from before (image_segments w n e) c) c ≡ if_accepted (judged rule) (changed before (segments_in t) c) c
            lists-are = go j refl ∙ ap (λ (k : Judged). if_accepted (judged k) (changed before (segments_in t) c) c) (sym whole)
              where
                go : (k : Judged) → j ≡ k → if_accepted (judged k) (changed_from before (image_segments w n e) c) c ≡ if_accepted (judged k) (changed before (segments_in t) c) c
                go Accepted s = ap (λ (q : List Segment). changed_from before q c) (laid s).imaged.segments ∙ changed-ruled before (segments_in t) c
                go (Refused r) s = refl

            answer-is : answer_of j (delta_from epoch before (image_segments w n e)) ≡ updated_of (judged rule) epoch before (segments_in t)
            answer-is = go j refl ∙ ap (λ (k : Judged). updated_of (judged k) epoch before (segments_in t)) (sym whole)
              where
                go : (k : Judged) → j ≡ k → answer_of k (delta_from epoch before (image_segments w n e)) ≡ updated_of (judged k) epoch before (segments_in t)
                go Accepted s = ap U.Accepted (ap (delta_from epoch before) (laid s).imaged.segments ∙ delta-ruled epoch before (segments_in t))
                go (Refused r) s = refl

            pub past_room_lem : (v : UpdateAnswer) (work' : List ℕ) (a' : Areas) (c' : Changes)
                → Finished j w n e epoch h a c v work' a' c'
                → Replaced h g epoch size limits t work a c v work' a' c'
            past_room_lem v work' a' c' f =
                record {
                  answer = f.answer ∙ answer-is;
                  cleared = f.cleared ∙ rw (cleared-is, same) refl;
                  areas = f.areas ∙ areas-are;
                  lists = f.lists ∙ lists-are;
                }
