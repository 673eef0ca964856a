-- `paired::ids::push_lacking` meets its contract: an id that is held is left out, another is written at place k.
use Rattle.paired.proofs.Listed.{skip_count, skip_is, push-count, push-is}
use Rattle.paired.proofs.ids.push_lacking.Goals as goal

pub returns-then-contains : goal.returns-then-contains
returns-then-contains c = record { count = search skip_count; written = search skip_is }

pub returns : goal.returns
returns c = record { count = search push-count; written = search push-is }
