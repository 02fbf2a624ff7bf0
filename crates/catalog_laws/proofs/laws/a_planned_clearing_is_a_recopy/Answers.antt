use Rattle.catalog_laws.proofs.RecopyItems.{clears_items, stays_in_place}
use Rattle.catalog_laws.proofs.laws.a_planned_clearing_is_a_recopy.Goals as goal

pub returns : goal.returns
returns c = record { clears = clears_items; stays = stays_in_place }
