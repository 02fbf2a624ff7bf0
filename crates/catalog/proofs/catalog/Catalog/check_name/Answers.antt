use Rattle.plan_records.specs.NewNames.{name_meant}
use Rattle.catalog.proofs.NameChecks.{no_path}
use Rattle.plan_records.proofs.NewNames.{name_parts}
use Rattle.catalog.proofs.catalog.Catalog.check_name.Goals as goal

pub returns-in_default-clause-refused : goal.returns-in_default-clause-refused
returns-in_default-clause-refused c = no_path c.args.self.now c.args.new.now.path.parts c.args.new.now.size c.next_file-file.result c.next_file-file.ensures.next c.in_default.ensures.none

pub check_path-requires : goal.check_path-requires
check_path-requires c = record { parts = name_parts c.args.new.now.path.parts (name_meant c.in-Some.name) c.in-Some.ensures.name }
