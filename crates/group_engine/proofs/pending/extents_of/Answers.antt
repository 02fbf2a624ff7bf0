use Rattle.rebalance.proofs.catalog_tables.FileLaws.{layout_is}
use Rattle.group_engine.proofs.pending.extents_of.Goals as goal

pub extents_for-requires : goal.extents_for-requires
extents_for-requires c = layout_is c.shape.view_is c.requires
