-- The coverage rule accepts exactly the Active ranges that tile 0 to 65535, and what follows: each hash has one Active range, the widths sum to
-- 65536, and each range lies in the target. From `tiles-sound` and `tiles-complete`. Assumes nothing.
use Prim.Native.Nat.{ℕ, zero, suc, ◌≤◌, ◌<◌, zero-le, suc-le-suc}
use native.Mathlib.Nat.{le_of_suc-le-suc, not-suc-le-zero}
use native.Mathlib.Omega.{arith}
use mathlib.Core.Path.{◌≡◌, refl, sym, ap, ◌∙◌}
use mathlib.Core.Bool.{true, false}
use mathlib.Core.List.{List, [], ◌∷◌}
use mathlib.Core.Logic.{inl, inr, ⊎_elim}
use lib.ListN.{length, get_or}
use Rattle.lists.specs.Lists.{tick}
use Rattle.lists.specs.Sort.{Row}
use Rattle.lists.proofs.SortLaws.{true-or-false, In}
use Rattle.lists.proofs.RowOrder.{no}
use Rattle.answers.specs.Answer.{number_of, Accepted}
use Rattle.rules.specs.declared.Walked.{Walked}
use Rattle.rules.specs.declared.Walked.TheVariants.{Tiled, Broken, Short}
use Rattle.rules.specs.Tiling.{inside, holders, widths, Tiles, walked, is_tiled, tiles, walked_rule, coverage_rule}
use Rattle.rules.proofs.Ticks.{in-tick, low-tick, high-tick, tick-in}
use Rattle.rules.proofs.Tiled.{ranges_in_lem, tiles-sound, tiles-complete, tiles-widths}

-- ---- acceptance

accepted-tiled : (w : Walked) → walked_rule w ≡ Accepted → is_tiled w ≡ true
unfolding walked_rule
accepted-tiled Tiled e = refl
accepted-tiled (Broken x s id) e = let z : ◌≡◌ {A = ℕ} 34 0 = ap number_of e in absurd (omega arith)
accepted-tiled (Short x) e = let z : ◌≡◌ {A = ℕ} 35 0 = ap number_of e in absurd (omega arith)

tiled-accepted : (w : Walked) → is_tiled w ≡ true → walked_rule w ≡ Accepted
unfolding walked_rule
tiled-accepted Tiled e = refl
tiled-accepted (Broken x s id) e = no (sym e)
tiled-accepted (Short x) e = no (sym e)

pub coverage-sound : (active : List Row) → coverage_rule active ≡ Accepted → Tiles 0 65535 active
unfolding coverage_rule tiles
coverage-sound [] e = let z : ◌≡◌ {A = ℕ} 33 0 = ap number_of e in absurd (omega arith)
coverage-sound (r ∷ rs) e = tiles-sound 0 65535 (r ∷ rs) (accepted-tiled (walked 0 65535 (r ∷ rs)) e)

pub coverage-complete : (active : List Row) → Tiles 0 65535 active → coverage_rule active ≡ Accepted
unfolding coverage_rule tiles holders
coverage-complete [] t = absurd (omega (arith, t.once 0, in-tick 0 65535 0 (omega arith) t.target))
coverage-complete (r ∷ rs) t = tiled-accepted (walked 0 65535 (r ∷ rs)) (tiles-complete 0 65535 (r ∷ rs) t)

-- ---- what follows

pub one_in : (first last : ℕ) (rs : List Row) → Tiles first last rs → (h : ℕ) → first ≤ h → h ≤ last → holders h rs ≡ 1
one_in first last rs t h p q = t.once h ∙ in-tick first last h p q

pub none_below : (first last : ℕ) (rs : List Row) → Tiles first last rs → (h : ℕ) → h < first → holders h rs ≡ 0
none_below first last rs t h p = t.once h ∙ low-tick first last h p

pub none_above : (first last : ℕ) (rs : List Row) → Tiles first last rs → (h : ℕ) → last < h → holders h rs ≡ 0
none_above first last rs t h p = t.once h ∙ high-tick first last h p

-- every hash has one Active range, and the widths sum to 65536
pub covered-once : (active : List Row) → coverage_rule active ≡ Accepted → (h : ℕ) → h ≤ 65535 → holders h active ≡ 1
covered-once active e h p = one_in 0 65535 active (coverage-sound active e) h (omega arith) p

pub covered-widths : (active : List Row) → coverage_rule active ≡ Accepted → widths active ≡ 65536
covered-widths active e = tiles-widths 0 65535 active (coverage-sound active e)

-- each range lies in the target
in-holders : (h : ℕ) (rs : List Row) (r : Row) → In r rs → tick (inside r.0 r.1 h) ≤ holders h rs
unfolding holders
in-holders h [] r m = absurd m
in-holders h (x ∷ rs) r (inl e) = rw e (omega arith)
in-holders h (x ∷ rs) r (inr m) = omega (arith, in-holders h rs r m)

pub tiles-within : (first last : ℕ) (rs : List Row) → Tiles first last rs → (r : Row) → In r rs → (first ≤ r.0) × ((r.0 ≤ r.1) × (r.1 ≤ last))
tiles-within first last rs t r m =
    let g : r.0 ≤ r.1 = ranges_in_lem rs t.ranges r m in (
      (tick-in first last r.0 (omega (arith, t.once r.0, in-holders r.0 rs r m, in-tick r.0 r.1 r.0 (omega arith) g))).0,
      (g, (tick-in first last r.1 (omega (arith, t.once r.1, in-holders r.1 rs r m, in-tick r.0 r.1 r.1 g (omega arith)))).1),
    )

-- ---- `holders` by place: 1 is exactly one range

abbrev pub Holds : List Row → ℕ → ℕ → Type 0
Holds rs h i = (i < length rs) × (inside (get_or rs i (0, 0, 0)).0 (get_or rs i (0, 0, 0)).1 h ≡ true)

holders-none : (h : ℕ) (rs : List Row) → holders h rs ≡ 0 → (i : ℕ) → Holds rs h i → ⊥
unfolding holders
holders-none h [] e i p = not-suc-le-zero p.0
holders-none h (r ∷ rs) e zero p = let k : tick (inside r.0 r.1 h) ≡ 1 = ap tick p.1 in omega arith
holders-none h (r ∷ rs) e (suc i) p = holders-none h rs (omega arith) i (le_of_suc-le-suc p.0, p.1)

-- the place of the one range that holds h
pub the-holder : (h : ℕ) (rs : List Row) → holders h rs ≡ 1 → (i : ℕ) × (Holds rs h i × ((j : ℕ) → Holds rs h j → j ≡ i))
unfolding holders
the-holder h [] e = absurd (omega arith)
the-holder h (r ∷ rs) e =
    ⊎_elim
    (λ (p : inside r.0 r.1 h ≡ true).
    let k : tick (inside r.0 r.1 h) ≡ 1 = ap tick p in
    let z : holders h rs ≡ 0 = omega arith in
    (0, ((suc-le-suc zero-le, p), first z)))
    (λ (p : inside r.0 r.1 h ≡ false).
    let k : tick (inside r.0 r.1 h) ≡ 0 = ap tick p in
    let m = the-holder h rs (omega arith) in
    (suc m.0, ((suc-le-suc m.1.0.0, m.1.0.1), later p m.0 m.1.1)))
    (true-or-false (inside r.0 r.1 h))
  where
    first : holders h rs ≡ 0 → (j : ℕ) → Holds (r ∷ rs) h j → j ≡ 0
    first z zero q = refl
    first z (suc j) q = absurd (holders-none h rs z j (le_of_suc-le-suc q.0, q.1))

    later : inside r.0 r.1 h ≡ false → (i : ℕ) → ((j : ℕ) → Holds rs h j → j ≡ i) → (j : ℕ) → Holds (r ∷ rs) h j → j ≡ suc i
    later p i f zero q = no (sym q.1 ∙ p)
    later p i f (suc j) q = ap suc (f j (le_of_suc-le-suc q.0, q.1))
