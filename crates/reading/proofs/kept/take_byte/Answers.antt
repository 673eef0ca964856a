-- `reading::kept::take_byte` meets its contract, by its tests.
use native.Mathlib.Omega.{arith}
use mathlib.Core.Path.{◌∙◌}
use Rattle.reading.proofs.Keeping.{was-long, no_such, replaced-two, replaced, full, added}
use Rattle.reading.proofs.kept.take_byte.Goals as goal

pub returns-in_err-n : goal.returns-in_err-n
returns-in_err-n c = let e = was-long c.args.line.now c.args.kept c.args.b c.in_err-n.was in record { count = c.from_residual.ensures ∙ e.0; bytes = e.1 }

pub returns-then-line-n : goal.returns-then-line-n
returns-then-line-n c = let e = no_such c.args.line.now c.args.kept c.args.b _ c.in_ok-n.was c.if-line-n.true in record { count = e.0; bytes = e.1 }

pub overflow_sub-line : goal.overflow_sub-line
overflow_sub-line c =
    omega (arith, replaced-two c.args.line.now c.in_ok-n.n c.args.b c.replaces.result c.if-line-n.false c.replaces.ensures c.if-replaces.true)

pub bounds-line-n : goal.bounds-line-n
bounds-line-n c =
    omega (arith, replaced-two c.args.line.now c.in_ok-n.n c.args.b c.replaces.result c.if-line-n.false c.replaces.ensures c.if-replaces.true)

pub returns-then-replaces : goal.returns-then-replaces
returns-then-replaces c =
    let e = replaced c.args.line.now c.args.kept c.args.b _ c.in_ok-n.was c.if-line-n.false _ c.replaces.ensures c.if-replaces.true in
    record { count = e.0; bytes = e.1 }

pub returns-then-n-line : goal.returns-then-n-line
returns-then-n-line c =
    let e = full c.args.line.now c.args.kept c.args.b _ c.in_ok-n.was c.if-line-n.false _ c.replaces.ensures c.if-replaces.false c.if-n-line.true in
    record { count = e.0; bytes = e.1 }

pub returns : goal.returns
returns c =
    let e = added c.args.line.now c.args.kept c.args.b _ c.in_ok-n.was c.if-line-n.false _ c.replaces.ensures c.if-replaces.false c.if-n-line.false in
    record { count = e.0; bytes = e.1 }
