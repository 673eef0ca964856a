-- `climb` meets its contract. The invariant: of the rows met the first q were expanded (`Reached`). Rows are met once, so n - q falls.
use native.Mathlib.Omega.{arith}
use mathlib.Core.Path.{◌∙◌, refl}
use lib.ListN.{length-set}
use Rattle.walk.proofs.Climbing.{climb-start, climb-asks, climb-next, climb-end}
use Rattle.walk.proofs.climb.climb.Goals as goal

pub loop-q-init : goal.loop-q-init
loop-q-init c =
    let b =
    climb-start c.args.held.now.rows.now c.args.held.now.edges.now c.args.held.now.count c.args.held.now.tabled c.args.a c.requires.row c.args.w.now
    (omega (arith, c.requires.room.0)) c.requires.room.2 c.requires.room.1 in
    (omega arith, omega (arith, c.requires.row), omega arith, refl, simp length-set c.requires.room.0, b.0, b.1)

pub visit-t-requires : goal.visit-t-requires
visit-t-requires c =
    let a =
    climb-asks c.args.held.now.rows.now c.args.held.now.edges.now c.args.held.now.count c.args.held.now.tabled c.args.a c.requires.row c.loop-q.q c.loop-q.t.met
    c.loop-q.t.bare c.loop-q.m c.loop-q.w c.loop-q.invariant.1 (omega (arith, c.loop-q.invariant.4)) c.loop-q.invariant.6
    c.loop-q-test.true in
    record {
      row = (a.0, c.loop-q.invariant.5);
      met = (c.loop-q.invariant.1, a.1, a.2, c.loop-q.invariant.6.held);
      room = c.loop-q.invariant.4;
    }

pub parent_count-m-requires : goal.parent_count-m-requires
parent_count-m-requires c =
    let a =
    climb-asks c.args.held.now.rows.now c.args.held.now.edges.now c.args.held.now.count c.args.held.now.tabled c.args.a c.requires.row c.loop-q.q c.loop-q.t.met
    c.loop-q.t.bare c.loop-q.m c.loop-q.w c.loop-q.invariant.1 (omega (arith, c.loop-q.invariant.4)) c.loop-q.invariant.6
    c.loop-q-test.true in
    a.0

pub overflow_add-m : goal.overflow_add-m
overflow_add-m c =
    let a =
    climb-asks c.args.held.now.rows.now c.args.held.now.edges.now c.args.held.now.count c.args.held.now.tabled c.args.a c.requires.row c.loop-q.q c.loop-q.t.met
    c.loop-q.t.bare c.loop-q.m c.loop-q.w c.loop-q.invariant.1 (omega (arith, c.loop-q.invariant.4)) c.loop-q.invariant.6
    c.loop-q-test.true in
    omega (arith, a.2, c.parent_count-m.ensures)

pub loop-q-preserved : goal.loop-q-preserved
loop-q-preserved c =
    let e =
    climb-next c.args.held.now.rows.now c.args.held.now.edges.now c.args.held.now.count c.args.held.now.tabled c.args.a c.requires.row c.loop-q.q c.loop-q.t.met
    c.loop-q.t.bare c.loop-q.m c.loop-q.w c.loop-q.invariant.1 (omega (arith, c.loop-q.invariant.4)) c.loop-q.invariant.6
    c.loop-q-test.true c.visit-t.result.met c.visit-t.result.bare c.parent_count-m.result _ c.visit-t.auto.w c.parent_count-m.ensures
    c.loop-q.invariant.5 c.visit-t.ensures in
    (e.0, c.visit-t.ensures.1, e.1, c.visit-t.auto.w ∙ c.loop-q.invariant.3, omega (arith, c.visit-t.auto.w, c.loop-q.invariant.4), e.2, e.3)

pub returns : goal.returns
returns c =
    climb-end c.args.held.now.rows.now c.args.held.now.edges.now c.args.held.now.count c.args.held.now.tabled c.args.a c.requires.row c.loop-q.q c.loop-q.t.met
    c.loop-q.t.bare c.loop-q.m c.loop-q.w c.loop-q.invariant.1 (omega (arith, c.loop-q.invariant.4)) c.loop-q.invariant.6
    c.loop-q-test.false c.loop-q.invariant.2
