-- What areas hold that are not short: each law from a test x that said so. Assumes nothing.
use Prim.Native.Nat.{ℕ, ◌+◌, ◌*◌, ◌≤◌}
use mathlib.Core.Path.{◌≡◌, sym, ◌∙◌}
use mathlib.Core.Bool.{Bool, false}
use borrow.Author.Tests.{ltb-false}
use Rattle.rules.specs.Tables.{held_width}
use Rattle.rules.specs.Room.{no_room_to_judge, no_room_to_update, no_room_to_order}
use Rattle.answers.proofs.Judging.{or_left, or_right}

-- held rows, held edges and order list, for n rows with k edge words
pub record Held (held links order n k : ℕ) : Type 0 where
  pub for-rows : n * held_width ≤ held
  pub for-edges : k ≤ links
  pub for-order : n ≤ order

-- to judge a layout of n segment rows, p placement rows and k edge words
pub record Judge (work held links order n p k : ℕ) : Type 0 where
  pub for-work : 32 * (n + p + k) ≤ work
  pub for-held : Held held links order n k

pub enough-to-judge : (work held links order n p k : ℕ) (x : Bool) → x ≡ no_room_to_judge work held links order n p k → x ≡ false → Judge work held links order n p k
unfolding no_room_to_judge
enough-to-judge work held links order n p k x said told =
    let e : no_room_to_judge work held links order n p k ≡ false = sym said ∙ told in search (ltb-false, or_left, or_right)

-- the same for an update, beside h held rows, with the four lists of its delta
pub record Update (work held links order added removed splits merges n p k h : ℕ) : Type 0 where
  pub for-work : 32 * (n + p + k + h) ≤ work
  pub for-held : Held held links order n k
  pub for-added : n ≤ added
  pub for-removed : h ≤ removed
  pub for-splits : 2 * k ≤ splits
  pub for-merges : 2 * k ≤ merges

pub enough-to-update : (work held links order added removed splits merges n p k h : ℕ) (x : Bool)
    → x ≡ no_room_to_update work held links order added removed splits merges n p k h
    → x ≡ false
    → Update work held links order added removed splits merges n p k h
unfolding no_room_to_update
enough-to-update work held links order added removed splits merges n p k h x said told =
    let e : no_room_to_update work held links order added removed splits merges n p k h ≡ false = sym said ∙ told in search (ltb-false, or_left, or_right)

-- for an ordering query over h held rows with g edge words
pub record Order (work first second h g : ℕ) : Type 0 where
  pub for-work : 32 * (g + h) ≤ work
  pub for-first : g + 1 ≤ first
  pub for-second : g + 1 ≤ second

pub enough-to-order : (work first second h g : ℕ) (x : Bool) → x ≡ no_room_to_order work first second h g → x ≡ false → Order work first second h g
unfolding no_room_to_order
enough-to-order work first second h g x said told =
    let e : no_room_to_order work first second h g ≡ false = sym said ∙ told in search (ltb-false, or_left, or_right)
