-- `reading::lines::read_query` meets its contract: what was measured is what is written.
use native.Mathlib.Omega.{arith}
use lib.ListN.{length}
use Rattle.reading.specs.Lines.{query_line}
use Rattle.reading.proofs.Queries.{query-count, query-id, query-mode, query-history, query-completed, query-read, query-out, query-in}
use Rattle.reading.proofs.lines.read_query.Goals as goal

pub returns-then-count_fields-ne5 : goal.returns-then-count_fields-ne5
returns-then-count_fields-ne5 c =
    let e = query-out (query_line (length c.args.history.now) (length c.args.completed.now) c.args.line.now) c.args.history.now c.args.completed.now
    (query-count c.args.line.now _ _ _ c.count_fields.ensures c.if-count_fields-ne5.true) in
    record { says = grind (arith, e.0); history = e.1; completed = e.2 }

pub returns-in_err-id : goal.returns-in_err-id
returns-in_err-id c =
    let e = query-out (query_line (length c.args.history.now) (length c.args.completed.now) c.args.line.now) c.args.history.now c.args.completed.now
    (query-id c.args.line.now _ _ _ c.count_fields.ensures c.if-count_fields-ne5.false _ c.number_at.ensures c.in_err-id.was) in
    record { says = grind (arith, e.0); history = e.1; completed = e.2 }

pub returns-in_err-mode : goal.returns-in_err-mode
returns-in_err-mode c =
    let e = query-out (query_line (length c.args.history.now) (length c.args.completed.now) c.args.line.now) c.args.history.now c.args.completed.now
    (query-mode c.args.line.now _ _ _ c.count_fields.ensures c.if-count_fields-ne5.false _ c.number_at.ensures _ c.in_ok-id.was _ c.read_mode.ensures c.in_err-mode.was) in
    record { says = grind (arith, e.0); history = e.1; completed = e.2 }

pub returns-in_err-owned : goal.returns-in_err-owned
returns-in_err-owned c =
    let e = query-out (query_line (length c.args.history.now) (length c.args.completed.now) c.args.line.now) c.args.history.now c.args.completed.now
    (query-history c.args.line.now _ _ _ c.count_fields.ensures c.if-count_fields-ne5.false _ c.number_at.ensures _ c.in_ok-id.was _ c.read_mode.ensures _ c.in_ok-mode.was _ c.length_at.ensures c.in_err-owned.was) in
    record { says = grind (arith, e.0); history = e.1; completed = e.2 }

pub returns-in_err-done : goal.returns-in_err-done
returns-in_err-done c =
    let e = query-out (query_line (length c.args.history.now) (length c.args.completed.now) c.args.line.now) c.args.history.now c.args.completed.now
    (query-completed c.args.line.now _ _ _ c.count_fields.ensures c.if-count_fields-ne5.false _ c.number_at.ensures _ c.in_ok-id.was _ c.read_mode.ensures _ c.in_ok-mode.was _ c.length_at.ensures _ c.in_ok-owned.was _ c.length_at-2.ensures c.in_err-done.was) in
    record { says = grind (arith, e.0); history = e.1; completed = e.2 }

pub returns : goal.returns
returns c =
    let e = query-in (query_line (length c.args.history.now) (length c.args.completed.now) c.args.line.now) _ c.args.history.now _ c.args.completed.now _ _ _
    (query-read c.args.line.now _ _ _ c.count_fields.ensures c.if-count_fields-ne5.false _ c.number_at.ensures _ c.in_ok-id.was _ c.read_mode.ensures _ c.in_ok-mode.was _ c.length_at.ensures _ c.in_ok-owned.was _ c.length_at-2.ensures _ c.in_ok-done.was)
    c.list_at.ensures c.list_at-2.ensures in
    record { says = e.0; history = e.1; completed = e.2 }
