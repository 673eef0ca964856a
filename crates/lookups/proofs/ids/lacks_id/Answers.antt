-- `lacks_id` meets its contract: by what the search says.
use Rattle.lookups.proofs.Dangling.{lacks}
use Rattle.lookups.proofs.ids.lacks_id.Goals as goal

pub returns : goal.returns
returns c = search lacks
