use Rattle.std.proofs.Common.{◌≡◌, true, sym, subst}
use Rattle.asm_formats.specs.Status.{Status, is_status}
use Rattle.mounted_groups.proofs.FirstBodies.{status_ok}
use Rattle.mounted_groups.proofs.new_group.status_block.Goals as goal

pub encode-requires : goal.encode-requires
encode-requires c = subst (λ (r : Status). is_status r ≡ true) (sym c.first_status-status.ensures) (status_ok c.args.group.now c.requires)
