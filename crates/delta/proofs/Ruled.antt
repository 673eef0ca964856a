-- The delta over segments that ascend is the rule book's delta, and an accepted layout hands over no more than all hashes.
--     delta-ruled, changed-ruled     the delta and the four lists of the segments by id
--     covered-handover               what `write_delta` requires of the widths, from the coverage rule
-- Assumes nothing.
use Prim.Native.Nat.{ℕ, ◌+◌, ◌-◌, ◌≤◌}
use native.Mathlib.Omega.{arith}
use mathlib.Core.Path.{◌≡◌, refl, ap}
use mathlib.Core.Bool.{Bool, true, false, not, cond}
use mathlib.Core.List.{List, [], ◌∷◌}
use lib.Dec.{eqb}
use Rattle.lists.specs.Lists.{has}
use Rattle.lists.proofs.SetLaws.{keep_same}
use Rattle.rules.specs.Model.{Segment, ids_of, by_id}
use Rattle.rules.specs.Tiling.{widths, range_of, active_of, coverage_rule}
use Rattle.rules.specs.Delta.{added_of, removed_of, split_pairs, merge_pairs, widths_active, handover_of, delta_of}
use Rattle.rules.specs.Update.{Changes, changed}
use Rattle.rules.proofs.Ascended.{has-by_id}
use Rattle.rules.proofs.Covered.{covered-widths}
use Rattle.paired.specs.Pairs.{splits_from, merges_from}
use Rattle.delta.specs.Changed.{removed_from, delta_from, changed_from}
use Rattle.answers.specs.Answer.{Accepted}

removed-ruled : (u : List ℕ) (ss : List Segment) → removed_from u (by_id ss) ≡ removed_of u ss
unfolding removed_from removed_of
removed-ruled u ss =
    keep_same (λ (x : ℕ). not (has x (ids_of (by_id ss)))) (λ (x : ℕ). not (has x (ids_of ss))) u (λ x h. ap not (has-by_id x ss))

splits-ruled : (u : List ℕ) (ss : List Segment) → splits_from u (by_id ss) ≡ split_pairs u ss
unfolding splits_from split_pairs added_of
splits-ruled u ss = refl

merges-ruled : (u : List ℕ) (ss : List Segment) → merges_from u (by_id ss) ≡ merge_pairs u ss
unfolding merges_from merge_pairs added_of
merges-ruled u ss = refl

pub delta-ruled : (epoch : ℕ) (u : List ℕ) (ss : List Segment) → delta_from epoch u (by_id ss) ≡ delta_of epoch u ss
unfolding delta_from delta_of added_of handover_of
delta-ruled epoch u ss = rw (removed-ruled u ss, splits-ruled u ss, merges-ruled u ss) refl

pub changed-ruled : (u : List ℕ) (ss : List Segment) (c : Changes) → changed_from u (by_id ss) c ≡ changed u ss c
unfolding changed added_of
changed-ruled u ss c = rw (removed-ruled u ss, splits-ruled u ss, merges-ruled u ss) refl

-- ---- widths

active-widths : (ss : List Segment) → widths_active ss ≡ widths (active_of ss)
unfolding widths_active widths active_of
active-widths [] = refl
active-widths (s ∷ ss) = go (active-widths ss) (eqb s.head.state 1)
  where
    go : widths_active ss ≡ widths (active_of ss) → (b : Bool)
        → cond b (s.head.end - s.head.start + 1) 0 + widths_active ss ≡ widths (cond b (range_of s ∷ active_of ss) (active_of ss))
    go ih true = omega (arith, ih)
    go ih false = omega (arith, ih)

pub covered-handover : (ss : List Segment) → coverage_rule (active_of ss) ≡ Accepted → widths_active ss ≤ 65536
covered-handover ss e = omega (arith, active-widths ss, covered-widths (active_of ss) e)
