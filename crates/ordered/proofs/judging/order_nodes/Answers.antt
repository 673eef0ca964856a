-- `ordered::judging::order_nodes` meets its contract: offsets and edges in the scratch are the graph of the rows.
use Rattle.ordered.proofs.JudgeLaws.{laid, laid_told}
use Rattle.ordered.proofs.judging.order_nodes.Goals as goal

pub order_in-requires : goal.order_in-requires
order_in-requires c = laid c.args.held.now c.requires.closed _ _ _ c.requires.room c.lay_offsets.ensures c.lay_edges.ensures

pub returns : goal.returns
returns c = laid_told c.args.held.now c.requires.closed _ _ _ c.requires.room c.lay_offsets.ensures c.lay_edges.ensures c.args.limit _ _ c.order_in.ensures.0
