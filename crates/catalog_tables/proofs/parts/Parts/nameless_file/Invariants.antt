use Rattle.std.proofs.Common.{◌≡◌}
use Rattle.catalog_tables.specs.Rules.{first_wrong, has_names}
use Rattle.catalog_tables.proofs.parts.Parts.nameless_file.Given as goal

abbrev pub invariant-loop-file : goal.invariant-loop-file
invariant-loop-file l = first_wrong (has_names l.self) l.file-iterator ≡ first_wrong (has_names l.self) l.self.files
