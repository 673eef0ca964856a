-- The smaller of a number and 2^64 - 1, by which of them it is; and needs put together area by area. Assumes nothing.
use Prim.Native.Nat.{ℕ, ◌+◌, ◌*◌, ◌≤◌, ◌<◌}
use mathlib.Core.Path.{◌≡◌, refl}
use native.Mathlib.Nat.{add-zero}
use mathlib.Core.Bool.{Bool, true, false, cond}
use native.Mathlib.Omega.{arith}
use lib.Dec.{leb}
use borrow.Author.Tests.{le-leb, leb-true, leb-false}
use Rattle.rules.specs.Tables.{held_width}
use Rattle.rules.specs.Room.{work_need}
use Rattle.crossing.specs.Needs.{greatest, capped, update_needs, ordering_needs}

pub low : (n : ℕ) → n ≤ greatest → n ≡ capped n
low n h = rw (le-leb n greatest h) refl

pub capped_is : (n r : ℕ) → (n ≤ greatest → r ≡ n) → (greatest < n → r ≡ greatest) → r ≡ capped n
capped_is n r low high = by (leb n greatest) refl
  where
    by : (t : Bool) → leb n greatest ≡ t → r ≡ cond t n greatest
    by true e = low (leb-true n greatest e)
    by false e = high (omega (arith, leb-false n greatest e))

pub update-needs : (n p k h w rows pairs : ℕ) → w ≡ capped (work_need (n + p + k + h)) → rows ≡ capped (n * held_width) → pairs ≡ capped (2 * k)
    → record { work = w; held = rows; links = k; order = n; added = n; removed = h; splits = pairs; merges = pairs } ≡ update_needs n p k h
update-needs n p k h w rows pairs a b e = rw (a, b, e) refl

pub ordering-needs : (h g w list : ℕ) → w ≡ capped (work_need (g + h + 0 + 0)) → list ≡ capped (g + 1) → record { work = w; first = list; second = list } ≡ ordering_needs h g
ordering-needs h g w list a b = rw (a, b, add-zero (g + h), add-zero (g + h)) refl
