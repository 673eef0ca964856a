-- `find_stretch` meets its contract, by what the search answered.
use Rattle.host.proofs.Spans.{span-told, refusal-told, span-stands, nothing-stands}
use native.Mathlib.Omega.{arith}
use Rattle.host.proofs.stretch.find_stretch.Goals as goal

pub returns-in-Ok : goal.returns-in-Ok
returns-in-Ok c = record {
  value = span-told c.args.tables.now c.args.side c.args.segment _ c.in-Ok.ensures.value;
  stretch = span-stands c.args.tables.now c.args.side c.args.segment _ c.in-Ok.ensures.value;
  within = c.in-Ok.ensures.within.0;
}

pub returns-in-Err : goal.returns-in-Err
returns-in-Err c = record {
  value = refusal-told c.args.tables.now c.args.side c.args.segment _ _ c.in-Err.ensures.value c.into.ensures;
  stretch = nothing-stands c.args.tables.now c.args.side c.args.segment _ c.in-Err.ensures.value;
  within = omega arith;
}
