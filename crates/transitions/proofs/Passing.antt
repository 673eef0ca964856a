-- The pass over all rows, for either rule that goes over segments one by one: what is left to judge.
-- Assumes nothing.
use Prim.Native.Nat.{ℕ, ◌+◌, ◌≤◌, ◌<◌}
use mathlib.Core.Path.{◌≡◌, refl, sym, ap, ◌∙◌}
use mathlib.Core.List.{List, [], ◌∷◌}
use lib.ListN.{drop}
use Rattle.answers.specs.declared.Refusal.{Refusal}
use Rattle.answers.specs.Answer.{◌then◌, Judged, Accepted, Refused}
use Rattle.types.specs.declared.records.Side.{Side}
use Rattle.types.specs.declared.records.Side.TheVariants.{Parents, Children}
use Rattle.rules.specs.Model.{Segment}
use Rattle.rules.specs.Tiling.{forks_from, joins_from}
use Rattle.held.specs.declared.Held.{Held}
use Rattle.held.specs.Front.{segments_of}
use Rattle.transitions.specs.Edged.{segment_of}
use Rattle.transitions.specs.Passes.{edges_rule, edges_from}
use Rattle.transitions.proofs.Rowed.{segments-drop, segments-done}

step : (side : Side) (ss : List Segment) (s : Segment) (rest : List Segment) → edges_from side ss (s ∷ rest) ≡ edges_rule side ss s then edges_from side ss rest
unfolding forks_from joins_from
step Children ss s rest = refl
step Parents ss s rest = refl

nil : (side : Side) (ss : List Segment) → edges_from side ss [] ≡ Accepted
unfolding forks_from joins_from
nil Children ss = refl
nil Parents ss = refl

module _ (side : Side) (held : Held) (i : ℕ) (all : Judged) (rest : all ≡ edges_from side (segments_of held) (drop i (segments_of held))) where
  pub pass_end : held.count ≤ i → Accepted ≡ all
  pass_end h = sym (rest ∙ ap (edges_from side (segments_of held)) (segments-done held i h) ∙ nil side (segments_of held))

  module _ (below : i < held.count) (j : Judged) (said : j ≡ edges_rule side (segments_of held) (segment_of held i)) where
    turn : all ≡ j then edges_from side (segments_of held) (drop (i + 1) (segments_of held))
    turn =
        let ss : List Segment = segments_of held in
        rest ∙ ap (edges_from side ss) (segments-drop held i below) ∙ step side ss (segment_of held i) (drop (i + 1) ss)
        ∙ ap (λ (x : Judged). x then edges_from side ss (drop (i + 1) ss)) (sym said)

    pub pass_next : j ≡ Accepted → all ≡ edges_from side (segments_of held) (drop (i + 1) (segments_of held))
    pass_next told = turn ∙ ap (λ (x : Judged). x then edges_from side (segments_of held) (drop (i + 1) (segments_of held))) told

    pub pass_stop : (r : Refusal) → j ≡ Refused r → j ≡ all
    pass_stop r told = told ∙ sym (turn ∙ ap (λ (x : Judged). x then edges_from side (segments_of held) (drop (i + 1) (segments_of held))) told)
