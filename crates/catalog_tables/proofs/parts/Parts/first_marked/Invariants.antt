use Rattle.std.proofs.Common.{◌≡◌}
use Rattle.staleness_directory.specs.Marks.{marks_from}
use Rattle.catalog_tables.specs.MarkedExtents.{first_marked}
use Rattle.catalog_tables.proofs.parts.Parts.first_marked.Given as goal

abbrev pub invariant-loop-at : goal.invariant-loop-at
invariant-loop-at l = first_marked l.self l.disk l.at-iterator ≡ first_marked l.self l.disk (marks_from l.self.stale l.fn.first)
