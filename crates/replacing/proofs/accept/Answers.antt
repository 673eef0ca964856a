-- What is stored is what stood in the work area before the delta was written (`Storing`).
use Rattle.rules.specs.Lent.{areas_in, changes_in}
use Rattle.replacing.proofs.Storing.{stored}
use Rattle.replacing.proofs.accept.Goals as goal

pub returns-clause-stored : goal.returns-clause-stored
returns-clause-stored c =
    stored c.args.w.now c.write_delta-d.new.w c.args.laid.rows c.args.laid.edges c.args.epoch c.args.h (areas_in c.args.areas.now) (changes_in c.args.changes.now) c.write_delta-d.auto.w c.write_delta-d.ensures.layout_stays _ _ _ _ c.write_delta-d.ensures.value c.clear.ensures c.store.ensures.stored c.write_delta-d.ensures.written
