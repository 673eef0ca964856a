-- The indexes of the pairs of the input tables tell of the segments of the image: ids are distinct, and what is found by id does not depend on the order of the rows.
-- Assumes nothing.
use Prim.Native.Nat.{ℕ, ◌+◌, ◌*◌}
use native.Mathlib.Omega.{arith}
use mathlib.Core.Path.{◌≡◌, sym, ap, subst, ◌∙◌}
use mathlib.Core.List.{List}
use lib.ListN.{length}
use Rattle.sorts.specs.Rows as Sorts
use Rattle.types.specs.declared.records.Side.{Side}
use Rattle.types.specs.declared.records.Side.TheVariants.{Parents, Children}
use Rattle.rules.specs.Model.{lookup}
use Rattle.rules.specs.Tables.{row_width, segments}
use Rattle.rules.proofs.Ascended.{lookup-by_id}
use Rattle.lookups.specs.PairSearch.{has_pair, Ordered}
use Rattle.lookups.specs.Sides.{side_of, sides_from, pair_index}
use Rattle.lookups.proofs.Linked.{index-ordered, linked-index, distinct}
use Rattle.lookups.proofs.Counted.{sides-both}
use Rattle.edges.specs.Links.{Tells}
use Rattle.held.specs.declared.Held.{Held}
use Rattle.held.specs.Front.{segments_of}
use Rattle.imaged.specs.Asked.{Mirrored}

module _ (held : Held) (rows edges : List ℕ) (g : Mirrored held rows edges) where
  pub index_tells : (side : Side) (pairs : List ℕ) (k : ℕ) → length pairs ≡ 3 * k → Sorts.rows pairs ≡ pair_index side row_width rows edges held.count → Tells (side_of side) (segments_of held) pairs k
  index_tells side pairs k size is =
      record {
        size = size;
        order = subst Ordered (sym is) (index-ordered side row_width rows edges held.count);
        tells = λ x y s found.
            ap (has_pair x y) is
            ∙ linked-index side row_width rows edges held.count x y s (distinct row_width rows edges held.count g.once) (sym (lookup-by_id x (segments rows edges held.count)) ∙ ap (lookup x) (sym g.same) ∙ found);
      }

  -- the pairs of both sides are as many as the edge words
  pub pairs_both : sides_from Parents row_width rows held.count 0 + sides_from Children row_width rows held.count 0 ≡ length edges
  pairs_both = omega (arith, sides-both row_width rows held.count 0, g.counts)
