-- `ancestors_of` meets its contract: the ids of the rows reached and those without a row, made one ascending list, are the ancestors.
use Prim.Native.Nat.{◌+◌, ◌*◌}
use native.Mathlib.Omega.{arith}
use lib.ListN.{length}
use Rattle.walk.proofs.Climbing.{merge-asks, all_listed}
use Rattle.walk.proofs.ancestors_of.Goals as goal

pub merge-requires : goal.merge-requires
merge-requires c = record {
  m_bound = (
    omega (arith, c.list_reached-met.ensures.1),
    omega (arith, c.list_once-bare.ensures.1, c.climb-walked.ensures.fits),
    omega (
      arith,
      c.requires.1,
      c.list_reached-met.ensures.1,
      c.list_once-bare.ensures.1,
      c.climb-walked.ensures.fits,
      c.prepare.auto.w,
      c.climb-walked.auto.w,
      c.list_once-bare.auto.w,
      c.list_reached-met.auto.w,
    ),
  );
  ascending =
      merge-asks c.args.held.now.rows.now c.args.held.now.edges.now c.args.held.now.count c.args.row.0 c.args.held.now.tabled c.climb-walked.new.w c.climb-walked.result
      c.climb-walked.ensures (3 * c.args.held.now.count + 3 * length c.args.held.now.edges.now)
      (3 * c.args.held.now.count + 3 * length c.args.held.now.edges.now + length c.args.held.now.edges.now) c.list_once-bare.result c.list_reached-met.result
      c.list_once-bare.new.w c.list_reached-met.new.w (omega arith) (omega (arith, c.list_once-bare.ensures.1, c.climb-walked.ensures.fits))
      c.list_once-bare.ensures.0 c.list_once-bare.ensures.2 c.list_reached-met.ensures.0 c.list_reached-met.ensures.2;
}

pub returns : goal.returns
returns c =
    all_listed c.args.held.now.rows.now c.args.held.now.edges.now c.args.held.now.count c.args.row.0 c.args.held.now.tabled c.climb-walked.new.w c.climb-walked.result
    c.climb-walked.ensures (3 * c.args.held.now.count + 3 * length c.args.held.now.edges.now)
    (3 * c.args.held.now.count + 3 * length c.args.held.now.edges.now + length c.args.held.now.edges.now) c.list_once-bare.result c.list_reached-met.result
    c.list_once-bare.new.w c.list_reached-met.new.w (omega arith) (omega (arith, c.list_once-bare.ensures.1, c.climb-walked.ensures.fits))
    c.list_once-bare.ensures.0 c.list_once-bare.ensures.2 c.list_reached-met.ensures.0 c.list_reached-met.ensures.2
    (3 * c.args.held.now.count + 3 * length c.args.held.now.edges.now + length c.args.held.now.edges.now + c.args.held.now.count) c.merge.new.w (omega arith)
    (omega (
      arith,
      c.requires.1,
      c.list_reached-met.ensures.1,
      c.list_once-bare.ensures.1,
      c.climb-walked.ensures.fits,
      c.prepare.auto.w,
      c.climb-walked.auto.w,
      c.list_once-bare.auto.w,
      c.list_reached-met.auto.w,
      c.merge.auto.w,
    ))
    c.merge.ensures
