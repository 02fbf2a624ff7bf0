use Rattle.catalog_laws.proofs.ItemLists.{items_say}
use Rattle.catalog_laws.proofs.laws.items_say_tables.Goals as goal

pub returns : goal.returns
returns c = items_say
