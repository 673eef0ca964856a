-- From what the parts answer, of the rows of the image, to the delta of its segments.
--     added-lacking     the ids of the added segments are those that the old table lacks
--     table_rows, bare-widths     what the parts ask of the rows that they are lent
--     told-changed, told-delta     what they say of the lists and of the delta
-- Assumes nothing.
use Prim.Native.Nat.{ℕ, ◌*◌, ◌≤◌}
use native.Mathlib.Omega.{arith}
use mathlib.Core.Path.{◌≡◌, refl, sym, ap, ◌∙◌}
use mathlib.Core.Bool.{Bool, true, false, not, cond}
use mathlib.Core.List.{List, [], ◌∷◌}
use lib.ListN.{length, length-map}
use Rattle.lists.specs.Lists.{has, front}
use Rattle.lists.specs.Sets.{keep}
use Rattle.answers.specs.declared.DagChangeReason.{DagChangeReason}
use Rattle.answers.specs.declared.DagDelta.{DagDelta}
use Rattle.rules.specs.Model.{Segment, id_of, ids_of}
use Rattle.rules.specs.Tables.{held_width, held_segments}
use Rattle.rules.specs.Delta.{added_from, widths_active, reason_of}
use Rattle.rules.specs.Update.{Changes}
use Rattle.tabled.specs.Image.{Tabled}
use Rattle.tabled.proofs.ByRow.{ids-segments}
use Rattle.paired.specs.Tables.{Rows, ids_in, lacking}
use Rattle.paired.specs.Pairs.{splits_from, merges_from, paired_from}
use Rattle.delta.specs.Bare.{bare}
use Rattle.delta.specs.Changed.{removed_from, moved_from, delta_from, changed_from}
use Rattle.delta.proofs.Summed.{widths-any, handed-any}

pub added-lacking : (u : List ℕ) (ss : List Segment) → ids_of (added_from u ss) ≡ lacking (ids_of ss) u
unfolding added_from lacking keep
added-lacking u [] = refl
added-lacking u (s ∷ ss) = go (added-lacking u ss) (has s.head.id u)
  where
    go : ids_of (added_from u ss) ≡ lacking (ids_of ss) u → (b : Bool)
        → ids_of (cond b (added_from u ss) (s ∷ added_from u ss)) ≡ cond (not b) (s.head.id ∷ lacking (ids_of ss) u) (lacking (ids_of ss) u)
    go ih true = ih
    go ih false = ap (λ (l : List ℕ). s.head.id ∷ l) ih

removed-lacking : (u : List ℕ) (ss : List Segment) → removed_from u ss ≡ lacking u (ids_of ss)
unfolding removed_from lacking
removed-lacking u ss = refl

module _ (rows edges : List ℕ) (n : ℕ) (good : Tabled rows edges n) where
  pub table_rows : Rows rows n
  table_rows = record { room = omega (arith, good.size); up = good.up }

  -- the rows that are lent hold all n
  pub lent-room : n * held_width ≤ length rows
  lent-room = table_rows.room

  abbrev S : List Segment
  S = held_segments rows edges n

  pub bare-widths : widths_active S ≤ 65536 → widths_active (bare rows n) ≤ 65536
  bare-widths h = omega (arith, h, widths-any rows edges [] n 0 0 0)

  new-ids : ids_in rows n ≡ ids_of S
  new-ids = sym (ids-segments rows edges n)

  module _ (u : List ℕ) where
    added_is : lacking (ids_in rows n) u ≡ ids_of (added_from u S)
    added_is = ap (λ (l : List ℕ). lacking l u) new-ids ∙ sym (added-lacking u S)

    removed-is : lacking u (ids_in rows n) ≡ removed_from u S
    removed-is = ap (lacking u) new-ids ∙ sym (removed-lacking u S)

    -- the lists of ids, and behind them the lists of pairs
    pub told-changed : (c c₁ c₂ : Changes) → c₁ ≡ moved_from u (ids_in rows n) c → c₂ ≡ paired_from u S c₁
        → c₂ ≡ changed_from u S c
    told-changed c c₁ c₂ one two = two ∙ rw one (rw (added_is, removed-is) refl)

    pub told-delta : (epoch more fewer split merged handover : ℕ) (reason : DagChangeReason)
        → more ≡ length (lacking (ids_in rows n) u) → fewer ≡ length (lacking u (ids_in rows n))
        → handover ≡ widths_active (added_from u (bare rows n))
        → split ≡ length (splits_from u S) → merged ≡ length (merges_from u S)
        → reason ≡ reason_of split merged fewer
        → (d : DagDelta) → d ≡ record { epoch = epoch; added = more; removed = fewer; splits = split; merges = merged; reason = reason; handover = handover }
        → d ≡ delta_from epoch u S
    unfolding delta_from
    told-delta epoch more fewer split merged handover reason em ef eh es eg er d ed =
        let m : more ≡ length (added_from u S) = em ∙ ap length added_is ∙ length-map (added_from u S) id_of in
        let f : fewer ≡ length (removed_from u S) = ef ∙ ap length removed-is in
        let o : handover ≡ widths_active (added_from u S) = eh ∙ handed-any u rows [] edges n 0 0 0 in
        ed ∙ rw (er, m, f, es, eg, o) refl
