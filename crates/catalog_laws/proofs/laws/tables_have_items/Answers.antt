use Rattle.catalog_laws.proofs.HavingItems.{have_items, items_are_one}
use Rattle.catalog_laws.proofs.laws.tables_have_items.Goals as goal

pub returns : goal.returns
returns c = record { there = have_items; one = items_are_one }
