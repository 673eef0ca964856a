-- The rule 3 to 23 within the rule of a whole layout: what comes first, and what is left (layout_is); a layout of no segments, which is left with
-- nothing but 33 (incoming-empty); and that rows which pass have an id each (incoming-once). By the laws of `then`. Assumes nothing.
use Prim.Native.Nat.{ℕ}
use native.Mathlib.Omega.{arith}
use mathlib.Core.Path.{◌≡◌, refl, sym, ap, ◌∙◌}
use mathlib.Core.List.{List, [], ◌∷◌}
use lib.ListN.{length}
use Rattle.answers.specs.Answer.{◌then◌, Judged, Accepted, Refused}
use Rattle.answers.proofs.Judging.{then-left, then-right}
use Rattle.words.specs.Twins.{NoTwins}
use Rattle.types.specs.declared.limits.DagLimits.{DagLimits}
use Rattle.rules.specs.Model.{Segment, Placement}
use Rattle.rules.specs.Tables.{row_width, segments}
use Rattle.rules.specs.Rows.{size_rule, placements_rule, rows_rule, dangling_rule}
use Rattle.rules.specs.Edges.{links_from, edges_rule}
use Rattle.rules.specs.Order.{order_from, order_of, ordered_rule, order_rule}
use Rattle.rules.specs.Tiling.{forks_from, joins_from, transitions_rule, active_of, coverage_rule}
use Rattle.rules.specs.Layout.{graph_rule, layout_rule}
use Rattle.judging.proofs.Distinct.{rows-distinct}
use Rattle.incoming.specs.Incoming.{incoming_rule}
use Rattle.answers.specs.declared.Refusal.TheVariants.{NoActiveSegments}

then-assoc : (a b c : Judged) → (a then b) then c ≡ a then (b then c)
then-assoc Accepted b c = refl
then-assoc (Refused r) b c = refl

-- what follows the last of four rules
four : (a b c d e : Judged) → a then (b then (c then (d then e))) ≡ (a then (b then (c then d))) then e
four a b c d e =
    ap (λ (t : Judged). a then (b then t)) (sym (then-assoc c d e))
    ∙ ap (λ (t : Judged). a then t) (sym (then-assoc b (c then d) e))
    ∙ sym (then-assoc a (b then (c then d)) e)

module _ (epoch size : ℕ) (limits : DagLimits) where
  pub layout_is : (ss : List Segment) (ps : List Placement) → layout_rule epoch size limits ss ps ≡ incoming_rule epoch size limits ss ps then (edges_rule ss then graph_rule limits ss)
  unfolding layout_rule incoming_rule
  layout_is ss ps = four (size_rule limits size (length ss) (length ps)) (placements_rule ps) (rows_rule epoch limits.edges ss) (dangling_rule ss ps) (edges_rule ss then graph_rule limits ss)

  -- 24 to 32 find nothing to refuse where there is no segment
  nothing_left : edges_rule [] then graph_rule limits [] ≡ Refused NoActiveSegments
  unfolding edges_rule links_from graph_rule order_rule ordered_rule order_of order_from transitions_rule forks_from joins_from active_of coverage_rule
  nothing_left = refl

  pub incoming-empty : (ss : List Segment) (ps : List Placement) → length ss ≡ 0 → layout_rule epoch size limits ss ps ≡ incoming_rule epoch size limits ss ps then Refused NoActiveSegments
  incoming-empty [] ps h = layout_is [] ps ∙ ap (λ (t : Judged). incoming_rule epoch size limits [] ps then t) nothing_left
  incoming-empty (s ∷ ss) ps h = absurd (omega arith)

  pub incoming-once : (rows edges : List ℕ) (n : ℕ) (ps : List Placement) → incoming_rule epoch size limits (segments rows edges n) ps ≡ Accepted → NoTwins rows row_width n
  unfolding incoming_rule
  incoming-once rows edges n ps e =
      let ss : List Segment = segments rows edges n in
      let b : Judged = rows_rule epoch limits.edges ss then dangling_rule ss ps in
      let past : b ≡ Accepted =
      then-right (placements_rule ps) b (then-right (size_rule limits size (length ss) (length ps)) (placements_rule ps then b) e) in
      rows-distinct epoch limits.edges rows edges n (then-left (rows_rule epoch limits.edges ss) (dangling_rule ss ps) past)
