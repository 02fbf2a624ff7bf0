use Rattle.std.proofs.Common.{ap, sym}
use Rattle.asm_formats.specs.Items.{Settings}
use Rattle.plan_records.specs.NewNames.{name_meant}
use Rattle.catalog.specs.NamePlans.{system_path}
use Rattle.catalog.proofs.NamePlans.{path_is, tree_refuses}
use Rattle.plan_records.proofs.NewNames.{path_parts}
use Rattle.catalog.proofs.catalog.Catalog.name_nodes.Goals as goal

pub file_nodes-requires-clause-parts : goal.file_nodes-requires-clause-parts
file_nodes-requires-clause-parts c =
    (path_parts c.in-Ok.path.parts (name_meant c.args.name) c.made_file-file.result c.behind-self.inside.incarnation c.in-Ok.ensures.path c.requires.parts c.in-Ok.ensures.file c.in-Ok.ensures.incarnation).0

pub returns-clause-refused : goal.returns-clause-refused
returns-clause-refused c =
    tree_refuses c.args.self.now.tables c.in-Ok.path.parts (system_path c.args.self.now.tables (name_meant c.args.name)) c.made_file-file.result c.in-Err-file_nodes.error c.refusal_of.result
    (path_is c.args.self.now.tables (name_meant c.args.name) c.in-Ok.path.parts c.made_file-file.result c.behind-self.inside.incarnation c.settings.result.now c.in-Ok.ensures.path c.made_file-file.ensures c.settings.ensures
    (sym (ap (λ (s : Settings). s.incarnation) c.behind-self.view_is)))
    c.made_file-file.ensures c.refusal_of.ensures c.in-Err-file_nodes.ensures.refused
