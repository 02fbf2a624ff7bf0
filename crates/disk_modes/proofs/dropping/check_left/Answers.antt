use Rattle.std.proofs.Common.{IsTrue, sym, subst}
use Rattle.asm_formats.specs.Status.{Status, is_status}
use Rattle.disk_modes.proofs.dropping.check_left.Goals as goal

pub with_modes-next-requires : goal.with_modes-next-requires
with_modes-next-requires c = subst (λ (r : Status). IsTrue (is_status r)) (sym c.status.ensures) c.requires.status
