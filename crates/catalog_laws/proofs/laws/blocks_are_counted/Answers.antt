use Rattle.catalog_laws.proofs.PageCounts.{blocks_are_counted, plans_have_room}
use Rattle.catalog_laws.proofs.laws.blocks_are_counted.Goals as goal

pub returns-clause-counted : goal.returns-clause-counted
returns-clause-counted c = blocks_are_counted

pub returns-clause-plans : goal.returns-clause-plans
returns-clause-plans c = plans_have_room
