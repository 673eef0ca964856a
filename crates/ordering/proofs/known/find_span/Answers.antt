-- `find_span` meets its contract, by the row of the segment.
use Rattle.std.proofs.Common.{refl, arith}
use Rattle.words.specs.Table.{At, Nothing}
use Rattle.ordering.proofs.Stretches.{span-bad, span-at, span-within, span-nowhere, row-below}
use Rattle.ordering.proofs.known.find_span.Goals as goal

pub returns-in_err-held-clause-value : goal.returns-in_err-held-clause-value
returns-in_err-held-clause-value c = grind (arith, span-bad c.args.tables.now c.args.id.0 c.args.side _ c.in_err-held.ensures)

pub span-requires : goal.span-requires
span-requires c = row-below c.args.tables.now c.args.id.0 _ c.in_ok-held.ensures (At _) c.in-Some.ensures _ refl

pub returns-in-Some-clause-value : goal.returns-in-Some-clause-value
returns-in-Some-clause-value c =
    span-at c.args.tables.now c.args.id.0 _ c.in_ok-held.ensures (At _) c.in-Some.ensures c.args.side _ c.span.result refl c.span.ensures.value

pub returns-in-Some-clause-within : goal.returns-in-Some-clause-within
returns-in-Some-clause-within c =
    span-within c.args.tables.now c.args.id.0 _ c.in_ok-held.ensures (At c.in-Some.row.0) c.in-Some.ensures c.span.result c.span.ensures.within

pub returns-in-None-clause-value : goal.returns-in-None-clause-value
returns-in-None-clause-value c =
    span-nowhere c.args.tables.now c.args.id.0 _ c.in_ok-held.ensures Nothing c.in-None.ensures c.args.side refl
