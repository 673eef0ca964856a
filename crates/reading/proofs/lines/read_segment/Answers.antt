-- `reading::lines::read_segment` meets its contract: what was measured is what is written, the children behind the parents.
use native.Mathlib.Omega.{arith}
use lib.ListN.{length}
use Rattle.reading.specs.Fields.{field}
use Rattle.reading.specs.Lists.{list_of, list_words}
use Rattle.reading.specs.Lines.{segment_line}
use Rattle.reading.proofs.Segments.{count_fits, measured, segment-count, segment-parents, segment-children, segment-row, segment-read, segment-out, both-listed, segment-in}
use Rattle.reading.proofs.lines.read_segment.Goals as goal

pub returns-then-count_fields-ne10 : goal.returns-then-count_fields-ne10
returns-then-count_fields-ne10 c =
    let e = segment-out (segment_line (length c.args.edges.now) c.args.line.now) c.args.edges.now
    (segment-count c.args.line.now _ _ c.count_fields.ensures c.if-count_fields-ne10.true) in
    record { says = grind (arith, e.0); lists = e.1 }

pub returns-in_err-parents : goal.returns-in_err-parents
returns-in_err-parents c =
    let e = segment-out (segment_line (length c.args.edges.now) c.args.line.now) c.args.edges.now
    (segment-parents c.args.line.now _ _ c.count_fields.ensures c.if-count_fields-ne10.false _ c.length_at.ensures c.in_err-parents.was) in
    record { says = grind (arith, e.0); lists = e.1 }

pub overflow_sub-edges : goal.overflow_sub-edges
overflow_sub-edges c = count_fits _ (field c.args.line.now 8) _ _ c.length_at.ensures c.in_ok-parents.was

pub returns-in_err-children : goal.returns-in_err-children
returns-in_err-children c =
    let e = segment-out (segment_line (length c.args.edges.now) c.args.line.now) c.args.edges.now
    (segment-children c.args.line.now _ _ c.count_fields.ensures c.if-count_fields-ne10.false _ c.length_at.ensures _ c.in_ok-parents.was _ c.length_at-2.ensures c.in_err-children.was) in
    record { says = grind (arith, e.0); lists = e.1 }

pub returns-in_err-info : goal.returns-in_err-info
returns-in_err-info c =
    let e = segment-out (segment_line (length c.args.edges.now) c.args.line.now) c.args.edges.now
    (segment-row c.args.line.now _ _ c.count_fields.ensures c.if-count_fields-ne10.false _ c.length_at.ensures _ c.in_ok-parents.was _ c.length_at-2.ensures _ c.in_ok-children.was _ c.read_row.ensures c.in_err-info.was) in
    record { says = grind (arith, e.0); lists = e.1 }

pub returns : goal.returns
returns c =
    let ps = list_words (list_of (length c.args.edges.now) (field c.args.line.now 8)) in
    let fit = count_fits (length c.args.edges.now) (field c.args.line.now 8) _ _ c.length_at.ensures c.in_ok-parents.was in
    let long = measured _ (list_of (length c.args.edges.now) (field c.args.line.now 8)) _ c.length_at.ensures c.in_ok-parents.was in
    let e = segment-in (segment_line (length c.args.edges.now) c.args.line.now) _ c.args.edges.now _ _
    (segment-read c.args.line.now _ _ c.count_fields.ensures c.if-count_fields-ne10.false _ c.length_at.ensures _ c.in_ok-parents.was _ c.length_at-2.ensures _ c.in_ok-children.was _ c.read_row.ensures _ c.in_ok-info.was)
    (both-listed c.args.edges.now c.list_at.new.words ps c.in_ok-parents.parents long fit c.list_at.ensures (field c.args.line.now 9) _ c.list_at-2.ensures) in
    record { says = e.0; lists = e.1 }
