use Rattle.catalog_units.proofs.catalog_tables.FileLaws.{layout_is}
use Rattle.plan_records.proofs.operations.shrinking.Goals as goal

pub extents_for-requires : goal.extents_for-requires
extents_for-requires c = layout_is c.shape.view_is c.requires
