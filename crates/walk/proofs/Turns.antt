-- The loop over the parents of a row: what is left to be read gives what all of them give (`Passing`).
-- The stretch of the edge table that row r has for its parents, by the words at the front of the work area.
-- Assumes nothing.
use Prim.Native.Nat.{ℕ, ◌+◌, ◌*◌, ◌<◌, ◌≤◌}
use native.Mathlib.Omega.{arith}
use native.Mathlib.Numerals.{add-one}
use mathlib.Core.Path.{◌≡◌, refl, sym, ap, ◌∙◌}
use mathlib.Core.List.{List, []}
use lib.ListN.{length, get_or, take, drop, drop_of_length-le}
use lib.Seq.{drop-cons}
use Rattle.words.specs.Table.{ids, Ascends}
use Rattle.rules.specs.Tables.{held_width, stretch, parents_at}
use Rattle.rules.proofs.Places.{start-room, length-stretch}
use Rattle.tabled.specs.Image.{Tabled, segment_in}
use Rattle.walk.specs.Met.{Met, meet, meet_all, MetOnce, met_in, StartsIn}
use Rattle.walk.proofs.Meeting.{held-meet}

-- of the parents ps the first j were read; w₀ was the work area at first, with `len` rows met and k ids without a row read
pub record Passing (table ps : List ℕ) (n len k : ℕ) (w₀ : List ℕ) (j l b : ℕ) (w : List ℕ) : Type 0 where
  pub held : MetOnce n (met_in n l b w)
  pub room_for : b ≤ k + j
  pub front : take n w ≡ take n w₀
  pub rest : meet_all table ps (met_in n len k w₀) ≡ meet_all table (drop j ps) (met_in n l b w)

pub passing-start : (table ps : List ℕ) (n len k : ℕ) (w : List ℕ) → MetOnce n (met_in n len k w) → Passing table ps n len k w 0 len k w
passing-start table ps n len k w h = record { held = h; room_for = omega arith; front = refl; rest = refl }

module _ (table ps : List ℕ) (n len k : ℕ) (w₀ : List ℕ) (size : length table ≡ n) (up : Ascends table) (j l b : ℕ) (w : List ℕ) (pass : Passing table ps n len k w₀ j l b w) where
  turn : j < length ps → (s : Met) → meet_all table (drop j ps) s ≡ meet_all table (drop (j + 1) ps) (meet table (get_or ps j 0) s)
  unfolding meet_all
  turn h s = rw (add-one, drop-cons ps j 0 h) refl

  pub passing-next : (l' b' : ℕ) (w' : List ℕ) → j < length ps → (met_in n l' b' w' ≡ meet table (get_or ps j 0) (met_in n l b w)) × (l' ≤ n) × (b' ≤ b + 1) × (take n w' ≡ take n w)
      → Passing table ps n len k w₀ (j + 1) l' b' w'
  passing-next l' b' w' h e =
      record {
        held = rw e.0 (held-meet n table size up (get_or ps j 0) (met_in n l b w) pass.held);
        room_for = omega (arith, e.2, pass.room_for);
        front = e.3 ∙ pass.front;
        rest = pass.rest ∙ turn h (met_in n l b w) ∙ sym (ap (meet_all table (drop (j + 1) ps)) e.0);
      }

  pub passing-end : length ps ≤ j → l ≤ n → (met_in n l b w ≡ meet_all table ps (met_in n len k w₀)) × (l ≤ n) × (take n w ≡ take n w₀)
  unfolding meet_all
  passing-end h ln =
      let d : drop j ps ≡ [] = drop_of_length-le ps {i = j} h in
      let e : meet_all table ps (met_in n len k w₀) ≡ meet_all table [] (met_in n l b w) = rw d at pass.rest in
      (sym e, ln, pass.front)

-- ---- the parents of row r

module _ (rows edges : List ℕ) (n : ℕ) (t : Tabled rows edges n) (r : ℕ) (h : r < n) (w : List ℕ) (s : StartsIn rows n w) (count : ℕ) (is : count ≡ parents_at rows (r * held_width)) where
  pub stretch-end : get_or w r 0 + count ≤ length edges
  stretch-end = omega (arith, s r h, start-room held_width rows n r (length edges) t.counts h)

  pub stretch-size : length (stretch edges (get_or w r 0) (get_or w r 0 + count)) ≡ parents_at rows (r * held_width)
  stretch-size = length-stretch edges (get_or w r 0) count stretch-end ∙ is

  stretch-is : stretch edges (get_or w r 0) (get_or w r 0 + count) ≡ (segment_in rows edges r).parents
  stretch-is = rw (s r h, is) refl

  pub expanded : (len k l b : ℕ) (w' : List ℕ) (p : List ℕ) → p ≡ stretch edges (get_or w r 0) (get_or w r 0 + count)
      → (met_in n l b w' ≡ meet_all (ids rows held_width n) p (met_in n len k w)) × (l ≤ n) × (take n w' ≡ take n w)
      → (met_in n l b w' ≡ meet_all (ids rows held_width n) (segment_in rows edges r).parents (met_in n len k w)) × (l ≤ n) × (take n w' ≡ take n w)
  expanded len k l b w' p e g = (g.0 ∙ ap (λ (l : List ℕ). meet_all (ids rows held_width n) l (met_in n len k w)) (e ∙ stretch-is), g.1, g.2)
