use Rattle.new_groups.proofs.Formed.{entries_right}
use Rattle.new_groups.proofs.mounting.first_catalog.Goals as goal

pub from_store-requires-clause-shape : goal.from_store-requires-clause-shape
from_store-requires-clause-shape c = c.requires.shape

pub from_store-requires-clause-entries : goal.from_store-requires-clause-entries
from_store-requires-clause-entries c = entries_right c.args.draft.now.status c.requires.status
