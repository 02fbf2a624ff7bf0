use Rattle.std.proofs.Common.{ap, sym}
use Rattle.asm_formats.specs.Items.{Settings}
use Rattle.plan_records.specs.NewNames.{name_meant}
use Rattle.catalog.proofs.NameChecks.{path_refused}
use Rattle.plan_records.proofs.NewNames.{path_parts}
use Rattle.catalog.proofs.catalog.Catalog.check_path.Goals as goal

pub file_nodes-requires-clause-parts : goal.file_nodes-requires-clause-parts
file_nodes-requires-clause-parts c =
    (path_parts c.in-Ok.path.parts (name_meant c.args.name) c.args.file c.behind-self.inside.incarnation c.in-Ok.ensures.path c.requires.parts c.in-Ok.ensures.file c.in-Ok.ensures.incarnation).0

pub returns-clause-refused : goal.returns-clause-refused
returns-clause-refused c =
    path_refused c.args.self.now.tables (name_meant c.args.name) c.in-Ok.path.parts c.args.file c.behind-self.inside.incarnation c.settings.result.now c.in-Ok.ensures.path c.settings.ensures
    (sym (ap (λ (s : Settings). s.incarnation) c.behind-self.view_is)) c.in-Err-file_nodes.error c.refusal_of.result c.refusal_of.ensures c.in-Err-file_nodes.ensures.refused
