-- What is stored from the work area is what stood there before the delta was written: its pairs go behind image and order. And what a refusal,
-- or an acceptance, leaves of each area and list.
-- Assumes nothing.
use Prim.Native.Nat.{ℕ, ◌+◌, ◌*◌, ◌≤◌}
use native.Mathlib.Omega.{arith}
use mathlib.Core.Path.{◌≡◌, refl, ap, ◌∙◌}
use mathlib.Core.List.{List}
use lib.ListN.{length, take, replicate}
use Rattle.words.specs.Part.{part}
use Rattle.answers.specs.declared.Refusal.{Refusal}
use Rattle.answers.specs.Updates as U
use Rattle.answers.specs.declared.DagDelta.{DagDelta}
use Rattle.rules.specs.Tables.{held_width}
use Rattle.rules.specs.Judge.{Areas}
use Rattle.rules.specs.Update.{Changes, held_before}
use Rattle.tabled.specs.Image.{image_rows, image_edges, image_segments}
use Rattle.tabled.proofs.Kept.{rows-kept, edges-kept, part-kept}
use Rattle.delta.specs.Changed.{delta_from, changed_from}
use Rattle.layout.specs.Laid.{order_at, stored_from}
use Rattle.replacing.specs.Stored.{pairs_at, Stored, Finished}
use Rattle.answers.specs.Answer.{Judged, Accepted, Refused}

-- w₁ is what writing the delta left of w
module _ (w w₁ : List ℕ) (n e epoch h : ℕ) (a : Areas) (c : Changes) (same : length w₁ ≡ length w) (kept : take (pairs_at n e) w₁ ≡ take (pairs_at n e) w) where
  pub order-fits : pairs_at n e + 3 * e ≤ length w → order_at n e + n ≤ length w₁
  order-fits room = omega (arith, same, room)

  pub stored : (d : DagDelta) (w' : List ℕ) (a' : Areas) (c' : Changes)
      → d ≡ delta_from epoch (held_before h a) (image_segments w n e)
      → w' ≡ replicate (length w₁) 0
      → a' ≡ stored_from w₁ n e a
      → c' ≡ changed_from (held_before h a) (image_segments w n e) c
      → Stored w n e epoch h a c d w' a' c'
  stored d w' a' c' ed ew ea ec =
      let room : n * held_width + e ≤ pairs_at n e = omega arith in
      let rows : image_rows w₁ n ≡ image_rows w n = rows-kept w₁ w (pairs_at n e) kept n e room in
      let edges : image_edges w₁ n e ≡ image_edges w n e = edges-kept w₁ w (pairs_at n e) kept n e room in
      let order : part w₁ (order_at n e) n ≡ part w (order_at n e) n = part-kept w₁ w (pairs_at n e) kept (order_at n e) n (omega arith) in
      record {
        delta = ed;
        emptied = ew ∙ ap (λ (k : ℕ). replicate k 0) same;
        areas = ea ∙ rw (rows, edges, order) refl;
        lists = ec;
      }

module _ (j : Judged) (w : List ℕ) (n e epoch h : ℕ) (a : Areas) (c : Changes) where
  pub accepted : j ≡ Accepted → (d : DagDelta) (w' : List ℕ) (a' : Areas) (c' : Changes)
      → Stored w n e epoch h a c d w' a' c'
      → Finished j w n e epoch h a c (U.Accepted d) w' a' c'
  accepted told d w' a' c' s =
      record { answer = rw told (ap U.Accepted s.delta); cleared = s.emptied; areas = rw told s.areas; lists = rw told s.lists }

  pub refused : (r : Refusal) → j ≡ Refused r → (w' : List ℕ) → w' ≡ replicate (length w) 0
      → Finished j w n e epoch h a c (U.Refused r) w' a c
  refused r told w' z = record { answer = rw told refl; cleared = z; areas = rw told refl; lists = rw told refl }
