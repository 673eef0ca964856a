-- `expand` meets its contract: the words at the front of the work area say where the stretch of the row is.
use native.Mathlib.Omega.{arith}
use Rattle.walk.proofs.Turns.{stretch-end, stretch-size}
use Rattle.walk.proofs.climb.expand.Goals as goal

pub overflow_add-b : goal.overflow_add-b
overflow_add-b c =
    omega (
      arith,
      (stretch-end c.args.held.now.rows.now c.args.held.now.edges.now c.args.held.now.count c.args.held.now.tabled c.args.r c.requires.row.0 c.args.w.now
          c.requires.row.1 c.parent_count-count.result c.parent_count-count.ensures),
      c.hints_from.ensures,
    )

pub overflow_add-from : goal.overflow_add-from
overflow_add-from c =
    omega (
      arith,
      (stretch-end c.args.held.now.rows.now c.args.held.now.edges.now c.args.held.now.count c.args.held.now.tabled c.args.r c.requires.row.0 c.args.w.now
          c.requires.row.1 c.parent_count-count.result c.parent_count-count.ensures),
    )

pub offset_bounds-held-from : goal.offset_bounds-held-from
offset_bounds-held-from c =
    omega (
      arith,
      (stretch-end c.args.held.now.rows.now c.args.held.now.edges.now c.args.held.now.count c.args.held.now.tabled c.args.r c.requires.row.0 c.args.w.now
          c.requires.row.1 c.parent_count-count.result c.parent_count-count.ensures),
    )

pub slice_bounds-meet_parents-end : goal.slice_bounds-meet_parents-end
slice_bounds-meet_parents-end c =
    stretch-end c.args.held.now.rows.now c.args.held.now.edges.now c.args.held.now.count c.args.held.now.tabled c.args.r c.requires.row.0 c.args.w.now c.requires.row.1
    c.parent_count-count.result c.parent_count-count.ensures

pub meet_parents-requires : goal.meet_parents-requires
meet_parents-requires c =
    let size =
    stretch-size c.args.held.now.rows.now c.args.held.now.edges.now c.args.held.now.count c.args.held.now.tabled c.args.r c.requires.row.0 c.args.w.now
    c.requires.row.1 c.parent_count-count.result c.parent_count-count.ensures in
    record {
      met = (c.requires.met.0, omega (arith, c.requires.met.1, size), c.requires.met.2);
      hints =
          omega (
            arith,
            size,
            c.parent_count-count.ensures,
            (stretch-end c.args.held.now.rows.now c.args.held.now.edges.now c.args.held.now.count c.args.held.now.tabled c.args.r c.requires.row.0 c.args.w.now
                c.requires.row.1 c.parent_count-count.result c.parent_count-count.ensures),
            c.hints_from.ensures,
            c.requires.room,
          );
    }
