-- A list read whole: `-`, or its items, which are written once they are known to be readable.
-- Assumes nothing.
use Rattle.std.specs.Prelude.{Option, Some, None}
use mathlib.Core.Path.{◌≡◌, refl, sym, ap, ◌∙◌}
use mathlib.Core.Bool.{Bool, true, false, cond}
use mathlib.Core.List.{List, [], ◌∷◌}
use Prim.Native.Nat.{ℕ, zero, suc, ◌<◌}
use native.Mathlib.Omega.{arith}
use lib.Dec.{eqb}
use Rattle.reading.specs.Numbers.{number_of}
use Rattle.reading.specs.Fields.{letter_of}
use Rattle.reading.specs.Lists.{before, numbers_of, items_of, list_of, listed, list_words, filled, front, front_with}

-- ---- what is written

front-all : (room : ℕ) (is : List (List ℕ)) (vs : List ℕ) → numbers_of room is ≡ Some vs → front room is ≡ vs
unfolding numbers_of front
front-all room [] vs e = cc
front-all zero (i ∷ is) vs e = absurd (let z : ◌≡◌ {A = ℕ} 0 1 = cc in omega arith)
front-all (suc room) (i ∷ is) vs e = go (number_of i) (numbers_of room is) (front-all room is) e
  where
    go : (n : Option ℕ) (o : Option (List ℕ)) → ((us : List ℕ) → o ≡ Some us → front room is ≡ us) → before n o ≡ Some vs → front_with n (front room is) ≡ vs
    go None o ih q = absurd (let z : ◌≡◌ {A = ℕ} 0 1 = cc in omega arith)
    go (Some v) None ih q = absurd (let z : ◌≡◌ {A = ℕ} 0 1 = cc in omega arith)
    go (Some v) (Some us) ih q = let t : front room is ≡ us = ih us refl in cc

-- a list that has an item is written as its items are
items-written : (o : Option (List ℕ)) (fr : List ℕ) (n : ℕ) → ((vs : List ℕ) → o ≡ Some vs → fr ≡ vs) → Some n ≡ listed o → fr ≡ list_words o
items-written None fr n q e = absurd (let z : ◌≡◌ {A = ℕ} 0 1 = cc in omega arith)
items-written (Some vs) fr n q e = q vs refl

pub written : (f words after : List ℕ) (room n : ℕ) (r : Option ℕ) → r ≡ listed (list_of room f) → r ≡ Some n → 0 < n
    → after ≡ filled words (front room (items_of f)) → after ≡ filled words (list_words (list_of room f))
unfolding list_of
written f words after room n r e k p h = go (eqb (letter_of f) 45) (sym k ∙ e)
  where
    go : (t : Bool) → Some n ≡ listed (cond t (Some []) (numbers_of room (items_of f))) → after ≡ filled words (list_words (cond t (Some []) (numbers_of room (items_of f))))
    go true q = absurd (let z : n ≡ 0 = cc in omega arith)
    go false q = h ∙ ap (filled words) (items-written (numbers_of room (items_of f)) (front room (items_of f)) n (front-all room (items_of f)) q)
