-- Document 01: "Edges, segments ascending: each parent in list order through 24, 25, 26 (parent's seal must equal child's creation), then
-- each child through 27, 25."
-- Assumes nothing.
use Rattle.std.specs.Prelude.{ℕ, not, List, [], ◌∷◌, eqb}
use Rattle.std.proofs.Math.Option.{Option, none, some}
use Rattle.lists.specs.Lists.{has}
use Rattle.answers.specs.Answer.{when, ◌then◌, Judged, Accepted, Refused}
use Rattle.rules.specs.Model.{Segment, lookup, by_id}
use Rattle.answers.specs.declared.Refusal.TheVariants.{EdgeEpochMismatch, NonReciprocalEdge, DanglingParent, DanglingChild}

-- 26 (parent, child, sealed or 0, created)
unfoldable pub epoch_rule : ℕ → ℕ → Option ℕ → ℕ → Judged
epoch_rule parent child none created = Refused (EdgeEpochMismatch parent child 0 created)
epoch_rule parent child (some sealed) created = when (not (eqb sealed created)) (Refused (EdgeEpochMismatch parent child sealed created))

-- 25 (parent, child), then 26, where the parent p of s has a row
unfoldable pub parent_found : Segment → Segment → Judged
parent_found s p =
    when (not (has s.head.id p.children)) (Refused (NonReciprocalEdge p.head.id s.head.id)) then
    epoch_rule p.head.id s.head.id p.head.sealed s.head.created

-- 24 (id, parent)
unfoldable pub parent_known : Segment → ℕ → Option Segment → Judged
parent_known s parent none = Refused (DanglingParent s.head.id parent)
parent_known s parent (some p) = parent_found s p

unfoldable pub parent_rule : List Segment → Segment → ℕ → Judged
parent_rule ss s parent = parent_known s parent (lookup parent ss)

-- 25 (parent, child), where the child c of s has a row
unfoldable pub child_found : Segment → Segment → Judged
child_found s c =
    when (not (has s.head.id c.parents)) (Refused (NonReciprocalEdge s.head.id c.head.id)) then
    Accepted

-- 27 (id, child)
unfoldable pub child_known : Segment → ℕ → Option Segment → Judged
child_known s child none = Refused (DanglingChild s.head.id child)
child_known s child (some c) = child_found s c

unfoldable pub child_rule : List Segment → Segment → ℕ → Judged
child_rule ss s child = child_known s child (lookup child ss)

-- each in list order
unfoldable pub parents_rule : List Segment → Segment → List ℕ → Judged
parents_rule ss s [] = Accepted
parents_rule ss s (p ∷ ps) = parent_rule ss s p then parents_rule ss s ps

unfoldable pub children_rule : List Segment → Segment → List ℕ → Judged
children_rule ss s [] = Accepted
children_rule ss s (c ∷ cs) = child_rule ss s c then children_rule ss s cs

unfoldable pub links_rule : List Segment → Segment → Judged
links_rule ss s =
    parents_rule ss s s.parents then
    children_rule ss s s.children

-- one segment after the other
unfoldable pub links_from : List Segment → List Segment → Judged
links_from ss [] = Accepted
links_from ss (s ∷ rest) = links_rule ss s then links_from ss rest

unfoldable pub edges_rule : List Segment → Judged
edges_rule ss = links_from ss (by_id ss)
