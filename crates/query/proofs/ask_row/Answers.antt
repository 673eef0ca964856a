-- `ask_row` meets its contract: the ancestors in the work area are the rule's, and so are the lists kept of them.
use Prim.Native.Nat.{◌+◌, ◌*◌}
use native.Mathlib.Omega.{arith}
use lib.ListN.{length}
use Rattle.query.proofs.Asking.{listed-up, asked-row}
use Rattle.query.proofs.ask_row.Goals as goal

pub invariant_of-ids : goal.invariant_of-ids
invariant_of-ids c = record { behind = omega (arith, c.ancestors_of-all.ensures.fits) }

pub answer_row-eligibility-requires : goal.answer_row-eligibility-requires
answer_row-eligibility-requires c = record { ascends = (omega (arith, c.ancestors_of-all.ensures.fits, c.ancestors_of-all.auto.w, c.requires.room.for-work), listed-up c.args.held.now.rows.now c.args.held.now.edges.now c.args.held.now.count c.args.held.now.tabled c.args.mode c.args.id c.args.history.now.owned.now c.args.history.now.completed.now c.args.row.0 (4 * c.args.held.now.count + 4 * length c.args.held.now.edges.now) c.ancestors_of-all.new.w c.ancestors_of-all.result c.requires.row.1 c.ancestors_of-all.ensures); room = (omega (arith, c.ancestors_of-all.ensures.fits, c.requires.room.for-first), omega (arith, c.ancestors_of-all.ensures.fits, c.requires.room.for-second)) }

pub returns-clause-replied : goal.returns-clause-replied
returns-clause-replied c =
    asked-row c.args.held.now.rows.now c.args.held.now.edges.now c.args.held.now.count c.args.held.now.tabled c.args.mode c.args.id c.args.history.now.owned.now c.args.history.now.completed.now c.args.row.0 (4 * c.args.held.now.count + 4 * length c.args.held.now.edges.now) c.ancestors_of-all.new.w c.ancestors_of-all.result c.requires.row.1 c.ancestors_of-all.ensures c.requires.row.0 _ _ _ _ _ c.answer_row-eligibility.ensures.told
