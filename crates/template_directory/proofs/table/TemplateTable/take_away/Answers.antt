use Rattle.std.proofs.Common.{ap}
use Rattle.template_directory.specs.Tables.{Table}
use Rattle.template_directory.proofs.EditLaws.{dropped_is}
use Rattle.template_directory.proofs.table.TemplateTable.take_away.Goals as goal

pub returns-clause-done : goal.returns-clause-done
returns-clause-done c kind = dropped_is kind c.args.self.now.templates c.remove.new.self.templates c.args.name.now (ap (λ (t : Table). t.templates) c.remove.ensures.after)
