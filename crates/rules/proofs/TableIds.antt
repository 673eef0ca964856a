-- The ids of a table are the ids of what it stands for: `ids` reads the words, `ids_of` the model.
-- By induction on the rows, for any width. Assumes nothing.
use Prim.Native.Nat.{ℕ, zero, suc, ◌+◌, ◌*◌}
use native.Mathlib.Nat.{add-zero, zero-mul, add-mul, one-mul}
use native.Mathlib.Omega.{arith}
use mathlib.Core.Path.{◌≡◌, refl, sym, ap, ◌∙◌}
use mathlib.Core.List.{List, ◌∷◌, map}
use lib.ListN.{get_or, drop}
use lib.Seq.{get_or-drop, drop-drop}
use Rattle.words.specs.Table.{ids}
use Rattle.rules.specs.Model.{Placement, ids_of}
use Rattle.rules.specs.Tables.{place_width, parents_at, children_at, segments_from, placements_from, placements}

-- one row of n, at row i
pub ids_next : (t : List ℕ) (width n i : ℕ) → get_or t (i * width) 0 ∷ ids (drop ((i + 1) * width) t) width n ≡ ids (drop (i * width) t) width (suc n)
ids_next t width n i =
    let e : get_or (drop (i * width) t) 0 0 ≡ get_or t (i * width) 0 = rw add-zero at (get_or-drop (i * width) t 0 0) in
    let a : i * width + width ≡ (i + 1) * width = omega (arith, add-mul i 1 width, one-mul width) in
    let f : drop width (drop (i * width) t) ≡ drop ((i + 1) * width) t = drop-drop width (i * width) t ∙ ap (λ (k : ℕ). drop k t) a in
    sym (rw (e, f) refl)

module _ (width : ℕ) (table edges : List ℕ) where
  segment-ids-from : (n i place : ℕ) → ids_of (segments_from width table edges n i place) ≡ ids (drop (i * width) table) width n
  segment-ids-from zero i place = refl
  segment-ids-from (suc n) i place =
      ap (λ (l : List ℕ). get_or table (i * width) 0 ∷ l)
      (segment-ids-from n (i + 1) (place + parents_at table (i * width) + children_at table (i * width)))
      ∙ ids_next table width n i

  pub segment-ids : (n : ℕ) → ids_of (segments_from width table edges n 0 0) ≡ ids table width n
  segment-ids n = rw zero-mul at (segment-ids-from n 0 0)

module _ (places : List ℕ) where
  placement-ids-from : (m i : ℕ) → map (λ (p : Placement). p.id) (placements_from places m i) ≡ ids (drop (i * place_width) places) place_width m
  placement-ids-from zero i = refl
  placement-ids-from (suc m) i = ap (λ (l : List ℕ). get_or places (i * place_width) 0 ∷ l) (placement-ids-from m (i + 1)) ∙ ids_next places place_width m i

  pub placement-ids : (m : ℕ) → map (λ (p : Placement). p.id) (placements places m) ≡ ids places place_width m
  placement-ids m = placement-ids-from m 0
