use Rattle.std.proofs.Common.{sym, subst}
use Rattle.file_commands.specs.HostCauses.{FailsAt}
use Rattle.file_commands.proofs.copying.host_fault.Goals as goal

pub returns-in-Ok : goal.returns-in-Ok
returns-in-Ok c = record { cause = λ s t fails. (c.in-Ok.ensures, subst (FailsAt s t) (sym c.in-Ok.ensures) fails) }
