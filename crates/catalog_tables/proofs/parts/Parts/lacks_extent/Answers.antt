use Rattle.catalog_tables.proofs.FileLaws.{layout_is}
use Rattle.catalog_tables.proofs.parts.Parts.lacks_extent.Goals as goal

pub extents_for-due-requires : goal.extents_for-due-requires
extents_for-due-requires c = layout_is c.shape.view_is c.requires.shape
