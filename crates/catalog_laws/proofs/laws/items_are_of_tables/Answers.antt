use Rattle.catalog.proofs.catalog_tables.TableItems.{items_of_records}
use Rattle.catalog_laws.proofs.laws.items_are_of_tables.Goals as goal

pub returns : goal.returns
returns c = items_of_records
