use Rattle.std.proofs.Common.{◌≡◌, ◌≤◌, ◌-◌, ◌^◌, ◌++◌}
use Rattle.group_reports.specs.Files.{files_from, found_of_files}
use Rattle.group_reports.proofs.searching.found_of_files.Given as goal

abbrev pub invariant-loop-number : goal.invariant-loop-number
invariant-loop-number l = record {
  found : l.found.items ++ found_of_files l.catalog.tables l.group l.dir l.pattern (files_from l.catalog.tables.files l.least) ≡ found_of_files l.catalog.tables l.group l.dir l.pattern l.catalog.tables.files;
  few : l.least ≤ 2 ^ 32;
}

abbrev pub decreases-loop-number : goal.decreases-loop-number
decreases-loop-number l = 2 ^ 32 - l.least
