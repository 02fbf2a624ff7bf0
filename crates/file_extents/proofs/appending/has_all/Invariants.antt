use Rattle.file_extents.specs.Appending.{HasAllExtents}
use Rattle.file_extents.proofs.appending.has_all.Given as goal

abbrev pub invariant-loop-index : goal.invariant-loop-index
invariant-loop-index l = HasAllExtents l.catalog.tables l.file l.copies l.index
