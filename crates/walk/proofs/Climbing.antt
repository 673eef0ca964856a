-- The walk's loop in the work area: of the `len` rows met the first q were expanded, and m references were read, k of them to ids without a row.
--     climb-start, climb-asks, climb-next, climb-end
--     merge-asks, all_listed     the rows reached and the ids without a row, made one list, are the ancestors
-- Assumes nothing.
use Prim.Native.Nat.{ℕ, ◌+◌, ◌*◌, ◌<◌, ◌≤◌}
use native.Mathlib.Omega.{arith}
use mathlib.Core.Path.{◌≡◌, refl, sym, ap, ◌∙◌}
use mathlib.Core.Bool.{true}
use mathlib.Core.Logic.{◌⊎◌, inl, inr}
use mathlib.Core.List.{List, [], ◌∷◌, ◌++◌}
use lib.Dec.{eqb}
use lib.ListN.{length, get_or, set, take, drop, replicate, length-set}
use lib.Seq.{take-set-le}
use Rattle.lists.specs.Lists.{has, ◌∈◌, ◌∉◌}
use Rattle.lists.specs.Sets.{Ascending}
use Rattle.lists.proofs.SortLaws.{true-or-false}
use Rattle.lists.proofs.SetLaws.{in_left, in_right, has-append}
use Rattle.words.specs.Part.{part}
use Rattle.words.specs.Table.{ids}
use Rattle.words.proofs.PartLaws.{part_length, part_at}
use Rattle.words.proofs.TableLaws.{length_ids}
use Rattle.rules.specs.Tables.{held_width, parents_at, start_of, held_segments}
use Rattle.rules.specs.Ancestors.{ancestors}
use Rattle.rules.proofs.Ancestry.{ancestors-unique}
use Rattle.rules.proofs.Counting.{ancestors-fit}
use Rattle.rules.proofs.Places.{start-room, length-stretch}
use Rattle.tabled.specs.Image.{Tabled, segment_in}
use Rattle.tabled.proofs.Kept.{part-kept}
use Rattle.walk.specs.declared.climb.Walked.{Walked}
use Rattle.walk.specs.Kept.{Kept, Apart, Listed}
use Rattle.walk.specs.Met.{meet_all, marks_in, list_in, bare_in, met_in, StartsIn, reached, reached_in, Climbed}
use Rattle.walk.proofs.ByParents.{words_are}
use Rattle.walk.proofs.Singles.{both, out}
use Rattle.walk.proofs.Steps.{set-inside, set_past, part-more, starts-kept}
use Rattle.walk.proofs.Reach.{Reached, parents_of_row, reached-start, reached-next, reads_fit, row_below, listed-are, bare_apart, read_count}
use Rattle.walk.proofs.Scanning.{in-reached, reached-up}
use Rattle.walk.proofs.Merging.{place_in}

module _ (rows edges : List ℕ) (n : ℕ) (t : Tabled rows edges n) (a : ℕ) (la : a < n) where
  pub climb-start : (w : List ℕ) → 3 * n ≤ length w → marks_in n w ≡ replicate n 0 → StartsIn rows n w
      → StartsIn rows n (set (set w (n + a) 2) (2 * n) a) × Reached rows edges n a 0 0 (met_in n 1 0 (set (set w (n + a) 2) (2 * n) a))
  climb-start w big z s =
      let w₁ : List ℕ = set w (n + a) 2 in
      let w₂ : List ℕ = set w₁ (2 * n) a in
      let e : 2 * n + 0 ≡ 2 * n = omega arith in
      let f : take n w₂ ≡ take n w = take-set-le n w₁ (2 * n) a (omega arith) ∙ take-set-le n w (n + a) 2 (omega arith) in
      let m : marks_in n w₂ ≡ set (marks_in n w) a 2 = set_past w₁ n n a (2 * n) (omega arith) ∙ set-inside w n n 2 a la in
      let l : list_in n 1 (set w₁ (2 * n + 0) a) ≡ a ∷ [] = part-more w₁ (2 * n) 0 a (rw length-set (omega arith)) in
      (starts-kept rows n w w₂ f s, rw (m, rw e at l) (reached-start rows edges n t a la (marks_in n w) z))

  module _ (q len k m : ℕ) (w : List ℕ) (ln : len ≤ n) (big : 3 * n + 3 * length edges ≤ length w) (r : Reached rows edges n a q m (met_in n len k w)) where
    list-size : length (list_in n len w) ≡ len
    list-size = part_length w (2 * n) len (omega arith)

    -- ids without a row are among the references read
    bare-below : k ≤ m
    bare-below = omega (arith, r.room_for, length_ids (drop (3 * n) w) 3 k)

    pub climb-end : len ≤ q → m ≤ length edges → Climbed rows edges n a w (record { read = m; bare = k })
    climb-end l fm =
        let z : length (list_in n len w) ≤ q = omega (arith, list-size) in
        record {
          are = listed-are rows edges n t a la q m (met_in n len k w) r z;
          apart = bare_apart rows edges n t a la q m (met_in n len k w) r z;
          count = read_count rows edges n t a la q m (met_in n len k w) r z;
          fits = omega (arith, bare-below);
        }

    module _ (l : q < len) where
      abbrev here : ℕ
      here = get_or w (2 * n + q) 0

      row_is : get_or (list_in n len w) q 0 ≡ here
      row_is = part_at w (2 * n) len q l

      inside : q < length (list_in n len w)
      inside = omega (arith, list-size)

      below : here < n
      below = rw row_is at (row_below rows edges n t a la q m (met_in n len k w) r inside)

      parents-size : length (parents_of_row rows edges here) ≡ parents_at rows (here * held_width)
      parents-size = length-stretch edges (start_of held_width rows here) (parents_at rows (here * held_width)) (omega (arith, start-room held_width rows n here (length edges) t.counts below))

      fits : m + parents_at rows (here * held_width) ≤ length edges
      fits =
          let f : m + length (parents_of_row rows edges here) ≤ length edges = rw row_is at (reads_fit rows edges n t a la q m (met_in n len k w) r inside) in
          omega (arith, f, parents-size)

      pub climb-asks : (here < n) × (k ≤ m) × (m + parents_at rows (here * held_width) ≤ length edges)
      climb-asks = (below, bare-below, fits)

      pub climb-next : (len' k' pc : ℕ) (w' : List ℕ) → length w' ≡ length w → pc ≡ parents_at rows (here * held_width) → StartsIn rows n w
          → (met_in n len' k' w' ≡ meet_all (ids rows held_width n) (segment_in rows edges here).parents (met_in n len k w)) × (len' ≤ n) × (take n w' ≡ take n w)
          → (q + 1 ≤ len') × (m + pc ≤ length edges) × StartsIn rows n w' × Reached rows edges n a (q + 1) (m + pc) (met_in n len' k' w')
      climb-next len' k' pc w' el ep s e =
          let x : Reached rows edges n a (q + 1) (m + length (parents_of_row rows edges (get_or (list_in n len w) q 0))) (met_in n len' k' w') =
          reached-next rows edges n t a la q m (met_in n len k w) r inside (met_in n len' k' w')
          (e.0 ∙ ap (λ (x : ℕ). meet_all (ids rows held_width n) (parents_of_row rows edges x) (met_in n len k w)) (sym row_is)) in
          let z : length (parents_of_row rows edges (get_or (list_in n len w) q 0)) ≡ pc = ap (λ (y : ℕ). length (parents_of_row rows edges y)) row_is ∙ parents-size ∙ sym ep in
          (omega (arith, x.le, part_length w' (2 * n) len' (omega (arith, e.1))), omega (arith, fits), starts-kept rows n w w' e.2 s, rw z at x)

-- ---- the list

-- w after the walk, w₁ with the ids without a row from word b on, each once, w₂ with those of the rows reached from word d on
module _ (rows edges : List ℕ) (n a : ℕ) (t : Tabled rows edges n) (w : List ℕ) (r : Walked) (c : Climbed rows edges n a w r) (b d bare met : ℕ) (w₁ w₂ : List ℕ) (nb : 3 * n ≤ b) (bd : b + bare ≤ d)
    (once : Kept (part w₁ b bare) (bare_in n r.bare w)) (front : take (3 * n) w₁ ≡ take (3 * n) w) (scan : part w₂ d met ≡ reached_in rows n w₁) (front₁ : take d w₂ ≡ take d w₁) where
  here-reached : part w₂ d met ≡ reached_in rows n w
  here-reached = scan ∙ ap (λ (l : List ℕ). reached (ids rows held_width n) l n) (part-kept w₁ w (3 * n) front n n (omega arith))

  here-bare : Kept (part w₂ b bare) (bare_in n r.bare w)
  here-bare = rw (part-kept w₂ w₁ d front₁ b bare bd) once

  pub merge-asks : Ascending (part w₂ d met) × Ascending (part w₂ b bare) × Apart (part w₂ d met) (part w₂ b bare)
  merge-asks = (
    rw here-reached (reached-up (ids rows held_width n) (marks_in n w) t.up n (omega (arith, length_ids rows held_width n))),
    here-bare.up,
    λ z i. out z (part w₂ b bare) (λ k. lost z (in-reached (ids rows held_width n) (marks_in n w) n z (rw here-reached at i)) (c.apart z (sym (here-bare.same z) ∙ k))),
  )
    where
      lost : (z : ℕ) → (x : ℕ) × (x < n) × (eqb (get_or (marks_in n w) x 0) 1 ≡ true) × (get_or (ids rows held_width n) x 0 ≡ z) → z ∉ ids rows held_width n → ⊥
      lost z (x, l, m, e) o = both z (ids rows held_width n) (rw (← e) (place_in (ids rows held_width n) x (omega (arith, length_ids rows held_width n)))) o

  climbed-listed : (l : List ℕ) → Kept l (part w₂ d met ++ part w₂ b bare) → l ≡ ancestors (held_segments rows edges n) (get_or rows (a * held_width) 0)
  climbed-listed l k =
      ancestors-unique (held_segments rows edges n) (get_or rows (a * held_width) 0) l k.up (λ x. ((λ h. (c.are x).0 (split x (sym (k.same x) ∙ h))), (λ h. k.same x ∙ join x ((c.are x).1 h))))
    where
      split : (x : ℕ) → x ∈ (part w₂ d met ++ part w₂ b bare) → (x ∈ reached_in rows n w) ⊎ (x ∈ bare_in n r.bare w)
      split x i = go (true-or-false (has x (part w₂ d met)))
        where
          go : (x ∈ part w₂ d met) ⊎ (x ∉ part w₂ d met) → (x ∈ reached_in rows n w) ⊎ (x ∈ bare_in n r.bare w)
          go (inl h) = inl (rw here-reached at h)
          go (inr o) = inr (sym (here-bare.same x) ∙ sym (has-append x (part w₂ d met) (part w₂ b bare) ∙ rw o refl) ∙ i)

      join : (x : ℕ) → (x ∈ reached_in rows n w) ⊎ (x ∈ bare_in n r.bare w) → x ∈ (part w₂ d met ++ part w₂ b bare)
      join x (inl h) = in_left x (part w₂ d met) (part w₂ b bare) (rw here-reached h)
      join x (inr h) = in_right x (part w₂ d met) (part w₂ b bare) (here-bare.same x ∙ h)

  -- there are no more ancestors than edge words
  pub all_listed : (e : ℕ) (w₃ : List ℕ) → e ≡ 4 * n + 4 * length edges → e + (met + bare) ≤ length w₃ → Kept (part w₃ e (met + bare)) (part w₂ d met ++ part w₂ b bare)
      → Listed rows edges n a (4 * n + 4 * length edges) w₃ (record { read = r.read; count = met + bare })
  all_listed e w₃ is room k =
      let l : part w₃ e (met + bare) ≡ ancestors (held_segments rows edges n) (get_or rows (a * held_width) 0) = climbed-listed (part w₃ e (met + bare)) k in
      rw (← is)
      (record {
        are = l;
        read = c.count;
        fits = omega (arith, part_length w₃ e (met + bare) room, ap length l, ancestors-fit (held_segments rows edges n) (get_or rows (a * held_width) 0), words_are rows edges n t.counts);
      })
