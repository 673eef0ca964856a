-- A placement found by the index: what `find_place` and `write_site` use of it, and that it is the one that the rule book looks up
-- (inside, row_done). By the laws of `find_row` and of the index of placements. Assumes nothing.
use mathlib.Core.Path.{◌≡◌, refl, sym, ap, ◌∙◌}
use mathlib.Core.Option.{Option, none, some}
use mathlib.Core.List.{List}
use Prim.Native.Nat.{ℕ, ◌+◌, ◌-◌, ◌*◌, ◌^◌, ◌<◌, ◌≤◌}
use native.Mathlib.Omega.{arith}
use mir.Val.{Fits}
use mir.Syntax.{w64}
use lib.ListN.{length, get_or}
use Rattle.words.specs.Part.{part, put}
use Rattle.words.specs.Table.{ids, where_is, Ascends, Found, At, Nothing}
use Rattle.words.proofs.PartLaws.{part-as, part_at, part_length}
use Rattle.words.proofs.TableLaws.{row-found}
use Rattle.rules.specs.Model.{Site, site_of}
use Rattle.rules.specs.Tables.{head_width, held_width, place_width, head_at, parents_at, children_at, placement_at, placements, head_words, site_words}
use Rattle.rules.proofs.Decode.{head-length}
use Rattle.indexes.proofs.Lookup.{place-below, site-below, site-found, site-missing}
use Rattle.image.specs.Written.{Placed, Inside, row_words, row_found, place_found, site_found}
use Rattle.image.proofs.Words.{row_written}

-- ---- `find_place`: a search in the part of w from b on

module _ (w : List ℕ) (b m : ℕ) (room : b + 3 * m ≤ length w) where
  -- the part, as it was lent
  abbrev lent : List ℕ
  lent = part w b (b + 3 * m - b)

  same : lent ≡ part w b (3 * m)
  same = part-as w b (b + 3 * m) (3 * m) refl

  pub lent-size : m * 3 ≤ length lent
  lent-size = rw (same, part_length w b (3 * m) room) (omega arith)

  pub lent-up : Ascends (ids (part w b (3 * m)) 3 m) → Ascends (ids lent 3 m)
  lent-up up = rw same up

  module _ (id : ℕ) (f : Found) (said : f ≡ where_is (ids lent 3 m) id) where
    module _ (q : ℕ) (told : f ≡ At q) where
      pub found_word : (j : ℕ) → j < 3 → b + q * 3 + j < length w
      found_word j k = omega (arith, (row-found lent 3 m id q (sym said ∙ told)).0)

      module _ (h : length w * 8 < 2 ^ 63) where
        pub fits-key : Fits w64 (q * 3)
        fits-key = record { fits = omega (arith, found_word 0 (omega arith)) }

        pub fits-place : Fits w64 (b + q * 3)
        fits-place = record { fits = omega (arith, found_word 0 (omega arith)) }

        pub fits_word : (j : ℕ) → j < 3 → Fits w64 (b + q * 3 + j)
        fits_word j k = record { fits = omega (arith, found_word j k) }

      pub found-told : At (get_or w (b + q * 3 + 1) 0) ≡ place_found (part w b (3 * m)) m id
      found-told =
          let below : q < m = (row-found lent 3 m id q (sym said ∙ told)).0 in
          let e : b + q * 3 + 1 ≡ b + (q * 3 + 1) = omega arith in
          let word : get_or w (b + q * 3 + 1) 0 ≡ get_or (part w b (3 * m)) (q * 3 + 1) 0 = rw e (sym (part_at w b (3 * m) (q * 3 + 1) (omega arith))) in
          let is : where_is (ids (part w b (3 * m)) 3 m) id ≡ At q = ap (λ (t : List ℕ). where_is (ids t 3 m) id) (sym same) ∙ sym said ∙ told in
          ap At word ∙ ap (row_found (part w b (3 * m))) (sym is)

    pub nothing-told : f ≡ Nothing → Nothing ≡ place_found (part w b (3 * m)) m id
    nothing-told told = ap (row_found (part w b (3 * m))) (sym told ∙ said ∙ ap (λ (t : List ℕ). where_is (ids t 3 m) id) same)

-- ---- `write_site`: the site of what was found

module _ (places : List ℕ) (f : Found) (inside : Inside places f) where
  pub k-room : (k : ℕ) → f ≡ At k → k * place_width + place_width ≤ length places
  k-room k told = rw told at inside

  pub k-fits : (k : ℕ) → f ≡ At k → length places * 8 < 2 ^ 63 → Fits w64 (k * place_width)
  k-fits k told h = record { fits = omega (arith, k-room k told) }

pub put-found : (places : List ℕ) (f : Found) (k : ℕ) → f ≡ At k → (w w' : List ℕ) (place : ℕ)
    → w' ≡ put w place 4 (site_words (some (placement_at places (k * place_width)).site)) → w' ≡ put w place 4 (site_words (site_found places f))
put-found places f k told w w' place e = rw told e

pub put-nothing : (places : List ℕ) (f : Found) → f ≡ Nothing → (w w' : List ℕ) (place : ℕ)
    → w' ≡ put w place 4 (site_words none) → w' ≡ put w place 4 (site_words (site_found places f))
put-nothing places f told w w' place e = rw told e

-- ---- with an index of the placements, it is the site that the rule book looks up

module _ (index places : List ℕ) (m id : ℕ) (p : Placed index places m) where
  -- by what the search answers
  abbrev Right : Found → Type 0
  Right f = (m * place_width ≤ length places → Inside places (row_found index f)) × (site_found places (row_found index f) ≡ site_of id (placements places m))

  right : (f : Found) → f ≡ where_is (ids index 3 m) id → Right f
  right (At q) said = (
    λ h. omega (arith, place-below index places m p.size p.is q (site-below index places m p.size p.is p.once id (At q) said q refl)),
    sym (site-found index places m p.size p.is p.once id (At q) said q refl),
  )
  right Nothing said = (λ h. tt, sym (site-missing index places m p.size p.is p.once id Nothing said refl))

  module _ (f : Found) (said : f ≡ place_found index m id) where
    pub inside : m * place_width ≤ length places → Inside places f
    inside h = rw said ((right (where_is (ids index 3 m) id) refl).0 h)

    site-is : site_found places f ≡ site_of id (placements places m)
    site-is = ap (site_found places) said ∙ (right (where_is (ids index 3 m) id) refl).1

-- a row: its head, and behind it the site that was found
pub row_done : (index places table : List ℕ) (m from : ℕ) → Placed index places m → (f : Found) → f ≡ place_found index m (get_or table from 0)
    → (w w1 w2 : List ℕ) (place b : ℕ) → place + held_width ≤ b → b + 3 * m ≤ length w
    → w1 ≡ put w place head_width (head_words (head_at table from) (parents_at table from) (children_at table from))
    → w2 ≡ put w1 (place + head_width) 4 (site_words (site_found places f))
    → w2 ≡ put w place held_width (row_words table (placements places m) from)
row_done index places table m from p f said w w1 w2 place b h r e g =
    let H : List ℕ = head_words (head_at table from) (parents_at table from) (children_at table from) in
    row_written w w1 w2 place H (site_words (site_of (get_or table from 0) (placements places m))) (omega arith) (head-length (head_at table from) (parents_at table from) (children_at table from)) e
    (g ∙ ap (λ (s : Option Site). put w1 (place + head_width) 4 (site_words s)) (site-is index places m (get_or table from 0) p f said))

-- what `find_place` rests on, and `write_site`
pub ruleset finding = (fits-key, fits-place, fits_word, lent-size, lent-up, found_word, found-told, nothing-told)

pub ruleset site_writing = (k-room, k-fits, put-found, put-nothing)
