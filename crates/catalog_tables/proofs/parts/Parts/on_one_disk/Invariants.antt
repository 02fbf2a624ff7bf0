use Rattle.std.proofs.Common.{◌≡◌}
use Rattle.catalog_tables.specs.Rules.{first_wrong, is_on_disks}
use Rattle.catalog_tables.proofs.parts.Parts.on_one_disk.Given as goal

abbrev pub invariant-loop-at : goal.invariant-loop-at
invariant-loop-at l = first_wrong is_on_disks l.at-iterator ≡ first_wrong is_on_disks l.self.extents
