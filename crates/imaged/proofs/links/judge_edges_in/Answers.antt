-- `judge_edges_in` is `links_from`: the pairs of both sides are as many as the edge words, and their indexes tell of the segments.
use Rattle.std.proofs.Common.{arith}
use Rattle.types.specs.declared.records.Side.TheVariants.{Parents, Children}
use Rattle.imaged.proofs.Pairing.{index_tells, pairs_both}
use Rattle.imaged.proofs.links.judge_edges_in.Goals as goal

pub overflow_sub-p : goal.overflow_sub-p
overflow_sub-p c = omega (arith, pairs_both c.args.held.now c.args.rows.now c.args.edges.now c.requires.mirrored, c.count_pairs-k.ensures)

pub overflow_mul-k : goal.overflow_mul-k
overflow_mul-k c = omega (arith, c.requires.pairs_fit, pairs_both c.args.held.now c.args.rows.now c.args.edges.now c.requires.mirrored, c.count_pairs-k.ensures)

pub split_at_mut-children-requires : goal.split_at_mut-children-requires
split_at_mut-children-requires c = omega (arith, c.requires.pairs_fit, pairs_both c.args.held.now c.args.rows.now c.args.edges.now c.requires.mirrored, c.count_pairs-k.ensures)

pub index_pairs-requires-2-clause-pairs_counted : goal.index_pairs-requires-2-clause-pairs_counted
index_pairs-requires-2-clause-pairs_counted c = omega (arith, pairs_both c.args.held.now c.args.rows.now c.args.edges.now c.requires.mirrored, c.count_pairs-k.ensures)

pub judge_links-requires-clause-children_told : goal.judge_links-requires-clause-children_told
judge_links-requires-clause-children_told c =
    index_tells c.args.held.now c.args.rows.now c.args.edges.now c.requires.mirrored Children _ _ (omega (arith, c.index_pairs.auto.pairs, c.split_at_mut-children.ensures.front_len)) c.index_pairs.ensures

pub judge_links-requires-clause-parents_told : goal.judge_links-requires-clause-parents_told
judge_links-requires-clause-parents_told c =
    index_tells c.args.held.now c.args.rows.now c.args.edges.now c.requires.mirrored Parents _ _ (omega (arith, c.index_pairs-2.auto.pairs, c.split_at_mut-parents.ensures.front_len)) c.index_pairs-2.ensures
