use Rattle.std.proofs.Common.{refl}
use Rattle.asm_group.specs.NewGroup.{system_templates}
use Rattle.asm_group.proofs.template_rows.Goals as goal

pub returns : goal.returns
unfolding system_templates
returns c = record { copies_in_normal = refl; copies_in_external = refl; copies_in_high = refl }
