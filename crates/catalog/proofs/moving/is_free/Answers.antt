use Rattle.plan_records.proofs.catalog_tables.PlacingLaws.{units_some}
use Rattle.catalog.proofs.moving.is_free.Goals as goal

pub has_run-requires : goal.has_run-requires
has_run-requires c = units_some _ _ c.units_of.result c.units_of.ensures
