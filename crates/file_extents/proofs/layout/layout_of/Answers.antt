use Rattle.std.proofs.Common.{sym, ◌∙◌}
use Rattle.catalog_tables.proofs.FileLaws.{layout_is}
use Rattle.file_extents.proofs.layout.layout_of.Goals as goal

pub returns-clause-layout : goal.returns-clause-layout
returns-clause-layout c = layout_is c.shape.view_is (sym c.is_allowed.ensures ∙ c.if-not-is_allowed.false)
