use Rattle.file_extents.proofs.Within.{AreTheRest}
use Rattle.file_extents.proofs.appending.is_within_file.Given as goal

abbrev pub invariant-loop-at : goal.invariant-loop-at
invariant-loop-at l = AreTheRest l.file l.copies l.catalog.tables.extents l.at-iterator
