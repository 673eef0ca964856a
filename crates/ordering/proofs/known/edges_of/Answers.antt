-- `edges_of` meets its contract: the stretch stands where `find_span` says.
use Rattle.ordering.proofs.Stretches.{edges-at, edges-nowhere}
use Rattle.ordering.proofs.known.edges_of.Goals as goal

pub returns-in-Ok : goal.returns-in-Ok
returns-in-Ok c = edges-at c.args.tables.now c.args.id.0 c.args.side c.in-Ok.span c.in-Ok.ensures.value

pub returns-in-Err : goal.returns-in-Err
returns-in-Err c = edges-nowhere c.args.tables.now c.args.id.0 c.args.side _ c.in-Err.ensures.value
