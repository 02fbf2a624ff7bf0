use Rattle.group_reports.proofs.Units.{AreSoFar}
use Rattle.group_reports.proofs.usage.file_units_by.Given as goal

abbrev pub invariant-loop-at : goal.invariant-loop-at
invariant-loop-at l = AreSoFar l.file l.catalog.shape.step l.units l.catalog.tables.extents l.at-iterator
