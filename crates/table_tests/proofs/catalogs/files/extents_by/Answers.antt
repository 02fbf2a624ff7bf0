use Rattle.catalog_tables.proofs.FileLaws.{layout_is}
use Rattle.table_tests.proofs.catalogs.files.extents_by.Goals as goal

pub extents_for-count-requires : goal.extents_for-count-requires
extents_for-count-requires c = layout_is c.shape.view_is c.requires
