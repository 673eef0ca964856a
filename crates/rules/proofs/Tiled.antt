-- The test `tiles` decides the meaning `Tiles`, for all ranges and every target; the widths of ranges that tile sum to the target's width; and
-- neither the order of ranges nor their ids count. Soundness by induction on the walk; completeness: of the sorted ranges the first must start
-- where the target does, and the rest tile what is left of it. Assumes nothing.
use Prim.Native.Nat.{ℕ, ◌+◌, ◌-◌, ◌≤◌, ◌<◌}
use native.Mathlib.Omega.{arith}
use mathlib.Core.Path.{◌≡◌, refl, sym, ap, ◌∙◌}
use mathlib.Core.Bool.{Bool, true, false, cond, not, ◌||◌}
use mathlib.Core.List.{List, [], ◌∷◌}
use mathlib.Core.Logic.{◌⊎◌, inl, inr, ⊎_elim}
use borrow.Author.Tests.{eq-eqb, ne_eqb, le-ltb, ltb-false, eqb-true, eqb-false, not-false}
use lib.Dec.{eqb, ltb}
use Rattle.lists.specs.Lists.{tick}
use Rattle.lists.specs.Sort.{Row, le3, sorted}
use Rattle.lists.proofs.Cases.{lt-or-le, eq-or-ne}
use Rattle.lists.proofs.SortLaws.{Asc, sorted-asc, In, in-sorted, of-sorted}
use Rattle.lists.proofs.RowOrder.{order3, le-first, no}
use Rattle.lists.proofs.Sums.{sum-sorted}
use Rattle.rules.specs.declared.Walked.{Walked}
use Rattle.rules.specs.declared.Walked.TheVariants.{Broken}
use Rattle.rules.specs.Tiling.{inside, holders, widths, Ranges, Tiles, misfit, walk_end, walk_from, walked, is_tiled, tiles}
use Rattle.rules.proofs.Ticks.{in-tick, low-tick, high-tick, tick-in, tick-split}

-- ---- sorted ranges: the same counts, and the same ranges

pub holders-sorted : (h : ℕ) (rs : List Row) → holders h (sorted le3 rs) ≡ holders h rs
unfolding holders
holders-sorted h rs = sum-sorted le3 (holders h) (λ (r : Row). tick (inside r.0 r.1 h)) (λ r l. refl) rs

pub widths-sorted : (rs : List Row) → widths (sorted le3 rs) ≡ widths rs
unfolding widths
widths-sorted rs = sum-sorted le3 widths _ (λ r l. refl) rs

pub ranges_in_lem : (rs : List Row) → Ranges rs → (r : Row) → In r rs → r.0 ≤ r.1
ranges_in_lem [] p r m = absurd m
ranges_in_lem (x ∷ rs) p r (inl e) = rw e p.0
ranges_in_lem (x ∷ rs) p r (inr m) = ranges_in_lem rs p.1 r m

pub in-ranges : (rs : List Row) → ((r : Row) → In r rs → r.0 ≤ r.1) → Ranges rs
in-ranges [] f = tt
in-ranges (x ∷ rs) f = (f x (inl refl), in-ranges rs (λ r m. f r (inr m)))

pub ranges-sorted : (rs : List Row) → Ranges rs → Ranges (sorted le3 rs)
ranges-sorted rs p = in-ranges (sorted le3 rs) (λ r m. ranges_in_lem rs p r (of-sorted le3 order3 r rs m))

pub sorted-ranges : (rs : List Row) → Ranges (sorted le3 rs) → Ranges rs
sorted-ranges rs p = in-ranges rs (λ r m. ranges_in_lem (sorted le3 rs) p r (in-sorted le3 order3 r rs m))

-- ---- one step

-- the range starts where it should, is a range, and does not go past the target
pub record Fit (x last s e : ℕ) : Type 0 where
  pub starts : s ≡ x
  pub range : s ≤ e
  pub within : e ≤ last

or_no : (a b : Bool) → a || b ≡ false → (a ≡ false) × (b ≡ false)
or_no true b e = no e
or_no false b e = (refl, e)

pub fit_of : (x last s e : ℕ) → misfit x last s e ≡ false → Fit x last s e
unfolding misfit
fit_of x last s e f =
    let p = or_no (not (eqb s x)) (ltb e s || ltb last e) f in
    let q = or_no (ltb e s) (ltb last e) p.1 in
    record { starts = eqb-true s x (not-false (eqb s x) p.0); range = ltb-false e s q.0; within = ltb-false last e q.1 }

pub of-fit : (x last s e : ℕ) → Fit x last s e → misfit x last s e ≡ false
unfolding misfit
of-fit x last s e f = rw (eq-eqb s x f.starts, le-ltb e s f.range, le-ltb last e f.within)

-- how a step of the walk can have come out well
walk-inv : (m t : Bool) (b u v : Walked) → is_tiled b ≡ false → is_tiled (cond m b (cond t u v)) ≡ true
    → (m ≡ false) × (((t ≡ true) × (is_tiled u ≡ true)) ⊎ ((t ≡ false) × (is_tiled v ≡ true)))
walk-inv true t b u v f e = no (sym e ∙ f)
walk-inv false true b u v f e = (refl, inl (refl, e))
walk-inv false false b u v f e = (refl, inr (refl, e))

-- ---- from the walk to the meaning

abbrev Good : ℕ → ℕ → List Row → Type 0
Good x last rs = Tiles x last rs × (widths rs ≡ last - x + 1)

good-last : (last x : ℕ) (r : Row) (rs : List Row) → Fit x last r.0 r.1 → r.1 ≡ last → is_tiled (walk_end last rs) ≡ true → Good x last (r ∷ rs)
unfolding walk_end holders widths
good-last last x r [] f e t =
    (record { target = omega (arith, f); ranges = (f.range, tt); once = λ h. rw (f.starts, e) (omega arith) }, omega (arith, f))
good-last last x r (q ∷ rs) f e t = no (sym t)

good_more : (last x : ℕ) (r : Row) (rs : List Row) → Fit x last r.0 r.1 → (r.1 ≡ last → ⊥) → Good (r.1 + 1) last rs → Good x last (r ∷ rs)
unfolding holders widths
good_more last x r rs f e g =
    let t = g.0 in
    let lt : r.1 < last = omega (arith, t.target) in (
      record {
        target = omega (arith, f);
        ranges = (f.range, t.ranges);
        once = λ h.
            let same : tick (inside r.0 last h) ≡ tick (inside x last h) = ap (λ (y : ℕ). tick (inside y last h)) f.starts in
            omega (arith, same, t.once h, tick-split r.0 r.1 last h f.range lt);
      },
      omega (arith, f, g.1),
    )

walk-good : (last x : ℕ) (rs : List Row) → is_tiled (walk_from last x rs) ≡ true → Good x last rs
unfolding walk_from
walk-good last x [] t = no (sym t)
walk-good last x (r ∷ rs) t =
    let w = walk-inv (misfit x last r.0 r.1) (eqb r.1 last) (Broken x r.0 r.2) (walk_end last rs) (walk_from last (r.1 + 1) rs) refl t in
    let f : Fit x last r.0 r.1 = fit_of x last r.0 r.1 w.0 in
    ⊎_elim
    (λ (p : (eqb r.1 last ≡ true) × (is_tiled (walk_end last rs) ≡ true)). good-last last x r rs f (eqb-true r.1 last p.0) p.1)
    (λ (p : (eqb r.1 last ≡ false) × (is_tiled (walk_from last (r.1 + 1) rs) ≡ true)).
    good_more last x r rs f (eqb-false r.1 last p.0) (walk-good last (r.1 + 1) rs p.1))
    w.1

-- ---- from the meaning to the walk

-- no range of rs starts before s
abbrev Above : ℕ → List Row → Type 0
Above s [] = Unit {0}
Above s (r ∷ rs) = (s ≤ r.0) × Above s rs

-- the ranges ascend by their starts
abbrev Steps : List Row → Type 0
Steps [] = Unit {0}
Steps (r ∷ rs) = Above r.0 rs × Steps rs

above-less : (s t : ℕ) (rs : List Row) → s ≤ t → Above t rs → Above s rs
above-less s t [] h a = tt
above-less s t (r ∷ rs) h a = (omega (arith, a.0), above-less s t rs h a.1)

asc-steps : (rs : List Row) → Asc le3 rs → Steps rs
asc-steps [] a = tt
asc-steps (r ∷ []) a = (tt, tt)
asc-steps (r ∷ q ∷ rs) a =
    let s = asc-steps (q ∷ rs) a.1 in
    let h : r.0 ≤ q.0 = le-first r q a.0 in
    ((h, above-less r.0 q.0 rs h s.0), s)

above-none : (s h : ℕ) (rs : List Row) → Above s rs → h < s → holders h rs ≡ 0
unfolding holders
above-none s h [] a p = refl
above-none s h (r ∷ rs) a p = omega (arith, low-tick r.0 r.1 h (omega (arith, a.0)), above-none s h rs a.1 p)

module _ (last x : ℕ) (r : Row) (rs : List Row) (above : Above r.0 rs) (t : Tiles x last (r ∷ rs)) where
  -- what the first range holds, the target holds
  first-in : (h : ℕ) → r.0 ≤ h → h ≤ r.1 → (x ≤ h) × (h ≤ last)
  unfolding holders
  first-in h p q = tick-in x last h (omega (arith, t.once h, in-tick r.0 r.1 h p q))

  first-starts : r.0 ≡ x
  unfolding holders
  first-starts =
      let low : x ≤ r.0 = (first-in r.0 (omega arith) t.ranges.0).0 in
      ⊎_elim
      (λ (p : x < r.0).
      absurd (omega (arith, t.once x, in-tick x last x (omega arith) t.target, low-tick r.0 r.1 x p, above-none r.0 x rs above p)))
      (λ (p : r.0 ≤ x). omega arith)
      (lt-or-le x r.0)

  first-fit : Fit x last r.0 r.1
  first-fit = record { starts = first-starts; range = t.ranges.0; within = (first-in r.1 t.ranges.0 (omega arith)).1 }

  rest-tiles : (r.1 ≡ last → ⊥) → Tiles (r.1 + 1) last rs
  unfolding holders
  rest-tiles e =
      let lt : r.1 < last = omega (arith, first-fit.within) in
      record {
        target = omega arith;
        ranges = t.ranges.1;
        once = λ h.
            let same : tick (inside r.0 last h) ≡ tick (inside x last h) = ap (λ (y : ℕ). tick (inside y last h)) first-starts in
            omega (arith, same, t.once h, tick-split r.0 r.1 last h t.ranges.0 lt);
      }

-- after a range that ends the target there is none
none_left : (last x : ℕ) (r : Row) (rs : List Row) → Above r.0 rs → Tiles x last (r ∷ rs) → r.1 ≡ last → is_tiled (walk_end last rs) ≡ true
unfolding walk_end holders
none_left last x r [] above t e = refl
none_left last x r (q ∷ rs) above t e =
    let s : ℕ = q.0 in
    let here : tick (inside q.0 q.1 s) ≡ 1 = in-tick q.0 q.1 s (omega arith) t.ranges.1.0 in
    ⊎_elim (λ (p : last < s). absurd (omega (arith, here, t.once s, high-tick x last s p)))
    (λ (p : s ≤ last).
    absurd (omega (
      arith,
      here,
      t.once s,
      in-tick x last s (omega (arith, first-starts last x r (q ∷ rs) above t, above.0)) p,
      in-tick r.0 r.1 s above.0 (omega arith),
    )))
    (lt-or-le last s)

tiles-walk : (last x : ℕ) (rs : List Row) → Steps rs → Tiles x last rs → is_tiled (walk_from last x rs) ≡ true
unfolding walk_from holders
tiles-walk last x [] s t = absurd (omega (arith, t.once x, in-tick x last x (omega arith) t.target))
tiles-walk last x (r ∷ rs) s t =
    let m : misfit x last r.0 r.1 ≡ false = of-fit x last r.0 r.1 (first-fit last x r rs s.0 t) in
    ⊎_elim (λ (e : r.1 ≡ last). rw (m, eq-eqb r.1 last e) (none_left last x r rs s.0 t e))
    (λ (e : r.1 ≡ last → ⊥). rw (m, ne_eqb r.1 last e) (tiles-walk last (r.1 + 1) rs s.1 (rest-tiles last x r rs s.0 t e)))
    (eq-or-ne r.1 last)

-- ---- the laws

sort-tiles : (first last : ℕ) (rs : List Row) → Tiles first last rs → Tiles first last (sorted le3 rs)
sort-tiles first last rs t =
    record { target = t.target; ranges = ranges-sorted rs t.ranges; once = λ h. holders-sorted h rs ∙ t.once h }

-- the test is right, for all rows and every target
pub tiles-sound : (first last : ℕ) (rs : List Row) → tiles first last rs ≡ true → Tiles first last rs
unfolding tiles walked
tiles-sound first last rs e =
    let t : Tiles first last (sorted le3 rs) = (walk-good last first (sorted le3 rs) e).0 in
    record { target = t.target; ranges = sorted-ranges rs t.ranges; once = λ h. sym (holders-sorted h rs) ∙ t.once h }

pub tiles-complete : (first last : ℕ) (rs : List Row) → Tiles first last rs → tiles first last rs ≡ true
unfolding tiles walked
tiles-complete first last rs t =
    tiles-walk last first (sorted le3 rs) (asc-steps (sorted le3 rs) (sorted-asc le3 order3 rs)) (sort-tiles first last rs t)

-- the widths of ranges that tile make the target's width
pub tiles-widths : (first last : ℕ) (rs : List Row) → Tiles first last rs → widths rs ≡ last - first + 1
unfolding tiles walked
tiles-widths first last rs t = sym (widths-sorted rs) ∙ (walk-good last first (sorted le3 rs) (tiles-complete first last rs t)).1

-- ---- another test, or other rows

-- two tests that decide the same are the same
pub same_test : (P : Type 0) (s t : Bool) → (s ≡ true → P) → (P → s ≡ true) → (t ≡ true → P) → (P → t ≡ true) → s ≡ t
same_test P true true a b c d = refl
same_test P true false a b c d = sym (d (a refl))
same_test P false true a b c d = b (c refl)
same_test P false false a b c d = refl

-- only what is held counts: neither the order of the rows nor their ids
pub tiles-same : (first last : ℕ) (rs qs : List Row) → (Ranges rs → Ranges qs) → (Ranges qs → Ranges rs) → ((h : ℕ) → holders h rs ≡ holders h qs)
    → tiles first last rs ≡ tiles first last qs
tiles-same first last rs qs f g e =
    same_test (Tiles first last rs) (tiles first last rs) (tiles first last qs) (tiles-sound first last rs) (tiles-complete first last rs)
    (λ p. let t : Tiles first last qs = tiles-sound first last qs p in record { target = t.target; ranges = g t.ranges; once = λ h. e h ∙ t.once h })
    (λ t. tiles-complete first last qs (record { target = t.target; ranges = f t.ranges; once = λ h. sym (e h) ∙ t.once h }))
