-- What the walk over the placements uses of its rule: one row more. m is the number of rows, i the row that is next, and the invariant, `rest`,
-- says that the answer is what the rule says of the rows to come after the ids of those before. Assumes nothing.
use Prim.Native.Nat.{ℕ, suc, ◌+◌, ◌-◌, ◌*◌, ◌≤◌, ◌<◌}
use native.Mathlib.Nat.{sub-zero}
use native.Mathlib.Omega.{arith}
use mathlib.Core.Path.{◌≡◌}
use mathlib.Core.List.{List, []}
use borrow.Author.Tests.{eq-eqb, ne_eqb}
use lib.ListN.{get_or, take}
use lib.Dec.{eqb}
use Rattle.answers.specs.Answer.{when, ◌then◌, Judged, Accepted, Refused}
use Rattle.lists.specs.Lists.{has}
use Rattle.words.specs.Table.{ids}
use Rattle.words.specs.Twins.{Twins}
use Rattle.rules.specs.Tables.{place_width, placements, placements_from}
use Rattle.rules.specs.Rows.{places_from, placements_rule}
use Rattle.judging.proofs.Before.{ids_more, flag-in, flag-hit, flag-miss}
use Rattle.answers.specs.declared.Refusal.TheVariants.{DuplicatePlacement, EmptyPlacementUrl}

pub places-start : (places : List ℕ) (m : ℕ) → placements_rule (placements places m) ≡ places_from [] (placements_from places (m - 0) 0)
unfolding placements_rule
places-start places m = simp sub-zero

module _ (places : List ℕ) (m i : ℕ) (v : Judged) (rest : v ≡ places_from (take i (ids places place_width m)) (placements_from places (m - i) i)) where
  pub places-end : m ≤ i → Accepted ≡ v
  unfolding places_from
  places-end h = let e : m - i ≡ 0 = omega arith in rw (rest, e)

  module _ (below : i < m) where
    places-open : v ≡
        when (has (get_or places (i * place_width) 0) (take i (ids places place_width m))) (Refused (DuplicatePlacement (get_or places (i * place_width) 0))) then
        when (eqb (get_or places (i * place_width + 1) 0) 0) (Refused (EmptyPlacementUrl (get_or places (i * place_width) 0))) then
        places_from (take (i + 1) (ids places place_width m)) (placements_from places (m - (i + 1)) (i + 1))
    unfolding places_from
    places-open = let e : m - i ≡ suc (m - (i + 1)) = omega arith in rw (rest, e, ids_more places place_width m i below)

    module _ (flags : List ℕ) (twins : Twins (ids places place_width m) flags) where
      pub places-twin : (r : Judged) → (get_or flags i 0 ≡ 0 → ⊥) → r ≡ Refused (DuplicatePlacement (get_or places (i * place_width) 0)) → r ≡ v
      places-twin r h e = rw (e, places-open, flag-hit places place_width m i below flags twins h)

      module _ (new : get_or flags i 0 ≡ 0) where
        pub places-empty : (r : Judged) → get_or places (i * place_width + 1) 0 ≡ 0 → r ≡ Refused (EmptyPlacementUrl (get_or places (i * place_width) 0)) → r ≡ v
        places-empty r h e = rw (e, places-open, flag-miss places place_width m i below flags twins new, eq-eqb _ _ h)

        pub places-next : (get_or places (i * place_width + 1) 0 ≡ 0 → ⊥) → v ≡ places_from (take (i + 1) (ids places place_width m)) (placements_from places (m - (i + 1)) (i + 1))
        places-next h = rw (places-open, flag-miss places place_width m i below flags twins new, ne_eqb _ _ h)

-- what `judge_placements` rests on
pub ruleset placements_judged = (flag-in, places-start, places-end, places-twin, places-empty, places-next)
