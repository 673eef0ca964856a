-- `visit` meets its contract: noting hints leaves what was met, so that it is `expand` that is owed (`visited`).
use native.Mathlib.Omega.{arith}
use Rattle.walk.proofs.Noted.{starts-there, held-there, visited}
use Rattle.walk.proofs.climb.visit.Goals as goal

pub expand-requires : goal.expand-requires
expand-requires c = record {
  row = (
    c.requires.row.0,
    starts-there c.args.held.now.rows.now c.args.held.now.edges.now c.args.held.now.count c.args.w.now c.note_when_due-noted.new.w c.args.t.met c.args.t.bare
        c.note_when_due-noted.ensures (omega (arith, c.requires.met.1, c.requires.met.2)) c.requires.met.0
        c.requires.row.1,
  );
  met = (
    c.requires.met.0,
    omega (arith, c.note_when_due-noted.auto.w, c.requires.met.1, c.requires.met.2, c.requires.room),
    held-there c.args.held.now.rows.now c.args.held.now.edges.now c.args.held.now.count c.args.w.now c.note_when_due-noted.new.w c.args.t.met c.args.t.bare
        c.note_when_due-noted.ensures (omega (arith, c.requires.met.1, c.requires.met.2)) c.requires.met.0
        c.requires.met.3,
  );
  room = omega (arith, c.note_when_due-noted.auto.w, c.requires.room);
}

pub returns : goal.returns
returns c =
    visited c.args.held.now.rows.now c.args.held.now.edges.now c.args.held.now.count c.args.w.now c.note_when_due-noted.new.w c.args.t.met c.args.t.bare
    c.note_when_due-noted.ensures (omega (arith, c.requires.met.1, c.requires.met.2)) c.requires.met.0 _ _
    c.expand.result.met c.expand.result.bare _ c.expand.ensures
