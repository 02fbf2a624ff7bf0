use Rattle.std.proofs.Common.{◌∙◌}
use Rattle.status_table.proofs.Allowed.{any_is_found}
use Rattle.status_table.proofs.rules.has_entry.Goals as goal

pub returns : goal.returns
returns c = c.is_any_of_disk.ensures ∙ any_is_found c.args.entries.now c.args.disk
