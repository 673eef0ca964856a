-- The needs that the calls tell are those of refusal 2: areas that have them are not short, and areas that are not short have them. An area of words has
-- fewer than 2^64 - 1 of them, so a need that is told as that many is never met.
-- Assumes nothing.
use Prim.Native.Nat.{ℕ, ◌+◌, ◌*◌, ◌≤◌, ◌<◌}
use native.Mathlib.Omega.{arith}
use mathlib.Core.Path.{◌≡◌, refl, subst}
use mathlib.Core.Bool.{Bool, true, false, cond}
use lib.Dec.{leb}
use borrow.Author.Tests.{le-ltb}
use Rattle.rules.specs.Tables.{held_width}
use Rattle.rules.specs.Room.{work_need, no_room_to_update, no_room_to_order}
use Rattle.shape.proofs.Enough.{enough-to-update, enough-to-order}
use Rattle.crossing.specs.Needs.{greatest, capped, update_needs, ordering_needs}
use Rattle.crossing.specs.declared.needs.UpdateNeeds.{UpdateNeeds}
use Rattle.crossing.specs.declared.needs.OrderingNeeds.{OrderingNeeds}
use Rattle.crossing.proofs.Capped.{low}

met : (n a : ℕ) → a < greatest → capped n ≤ a → n ≤ a
met n a small = by (leb n greatest)
  where
    by : (b : Bool) → cond b n greatest ≤ a → n ≤ a
    by true h = h
    by false h = absurd (omega (arith, small, h))

told : (n a : ℕ) → a < greatest → n ≤ a → capped n ≤ a
told n a small h = subst (λ (m : ℕ). m ≤ a) (low n (omega (arith, small, h))) h

module _ (work held links order added removed splits merges : ℕ) where
  -- each area has the words that it must have
  pub record Has (needs : UpdateNeeds) : Type 0 where
    pub for-work : needs.work ≤ work
    pub for-held : needs.held ≤ held
    pub for-links : needs.links ≤ links
    pub for-order : needs.order ≤ order
    pub for-added : needs.added ≤ added
    pub for-removed : needs.removed ≤ removed
    pub for-splits : needs.splits ≤ splits
    pub for-merges : needs.merges ≤ merges

  module _ (n p k h : ℕ) (small : (work < greatest) × (held < greatest) × (splits < greatest) × (merges < greatest)) where
    pub has_room : Has (update_needs n p k h) → no_room_to_update work held links order added removed splits merges n p k h ≡ false
    unfolding no_room_to_update
    has_room has =
        rw (le-ltb work (work_need (n + p + k + h)) (met _ work small.0 has.for-work), le-ltb held (n * held_width) (met _ held small.1 has.for-held), le-ltb links k has.for-links, le-ltb order n has.for-order, le-ltb added n has.for-added, le-ltb removed h has.for-removed, le-ltb splits (2 * k) (met _ splits small.2 has.for-splits), le-ltb merges (2 * k) (met _ merges small.3 has.for-merges))
        refl

    pub room-has : no_room_to_update work held links order added removed splits merges n p k h ≡ false → Has (update_needs n p k h)
    room-has room =
        let e = enough-to-update work held links order added removed splits merges n p k h (no_room_to_update work held links order added removed splits merges n p k h) refl room in
        record {
          for-work = told (work_need (n + p + k + h)) work small.0 e.for-work;
          for-held = told (n * held_width) held small.1 e.for-held.for-rows;
          for-links = e.for-held.for-edges;
          for-order = e.for-held.for-order;
          for-added = e.for-added;
          for-removed = e.for-removed;
          for-splits = told (2 * k) splits small.2 e.for-splits;
          for-merges = told (2 * k) merges small.3 e.for-merges;
        }

module _ (work first second h g : ℕ) (small : (work < greatest) × (first < greatest) × (second < greatest)) where
  pub record HasToOrder (needs : OrderingNeeds) : Type 0 where
    pub for-work : needs.work ≤ work
    pub for-first : needs.first ≤ first
    pub for-second : needs.second ≤ second

  pub has-room-to-order : HasToOrder (ordering_needs h g) → no_room_to_order work first second h g ≡ false
  unfolding no_room_to_order
  has-room-to-order has =
      rw (le-ltb work (work_need (g + h)) (met _ work small.0 has.for-work), le-ltb first (g + 1) (met _ first small.1 has.for-first), le-ltb second (g + 1) (met _ second small.2 has.for-second))
      refl

  pub room-has-to-order : no_room_to_order work first second h g ≡ false → HasToOrder (ordering_needs h g)
  room-has-to-order room =
      let e = enough-to-order work first second h g (no_room_to_order work first second h g) refl room in
      record {
        for-work = told (work_need (g + h)) work small.0 e.for-work;
        for-first = told (g + 1) first small.1 e.for-first;
        for-second = told (g + 1) second small.2 e.for-second;
      }
