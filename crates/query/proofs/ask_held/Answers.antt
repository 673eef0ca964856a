-- `ask_held` meets its contract, by where the row of the segment is found.
use mathlib.Core.Path.{refl}
use Rattle.words.specs.Table.{At, Nothing}
use Rattle.query.proofs.Asking.{asked-start, asked-nothing}
use Rattle.query.proofs.ask_held.Goals as goal

pub ask_row-requires : goal.ask_row-requires
ask_row-requires c = record {
  row =
      asked-start c.args.held.now.rows.now c.args.held.now.edges.now c.args.held.now.count c.args.held.now.tabled c.args.mode c.args.segment.0
      c.args.history.now.owned.now c.args.history.now.completed.now (At c.in-Some.row.0) c.in-Some.ensures _ refl;
  room = c.requires.room;
}

pub returns-in-None-clause-replied : goal.returns-in-None-clause-replied
returns-in-None-clause-replied c =
    asked-nothing c.args.held.now.rows.now c.args.held.now.edges.now c.args.held.now.count c.args.held.now.tabled c.args.mode c.args.segment.0
    c.args.history.now.owned.now c.args.history.now.completed.now Nothing c.in-None.ensures _ _ _ refl c.refused.ensures
