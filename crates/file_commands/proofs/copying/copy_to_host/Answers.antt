use Rattle.std.proofs.Common.{subst}
use Rattle.std.proofs.lemmas.Result.{err_from_is_err_and}
use Rattle.asm_group.specs.Names.{Bytes}
use Rattle.file_commands.specs.HostCauses.{HostFaultCause, IsAt}
use Rattle.file_commands.proofs.copying.copy_to_host.Goals as goal

pub returns-in_err-to-clause-cause : goal.returns-in_err-to-clause-cause
returns-in_err-to-clause-cause g c =
    let f = err_from_is_err_and c.from_residual.result c.from_residual.ensures.1 in
    rw (f.1, f.2) (c.in_err-to.ensures.cause (g.H.Host.faults c.args.host.now) (g.H.Host.faults c.args.host.now))

pub returns-in-Err-clause-cause : goal.returns-in-Err-clause-cause
returns-in-Err-clause-cause g c = subst (λ (p : Bytes). HostFaultCause (IsAt p) (g.H.Host.faults c.args.host.now) (g.H.Host.faults c.write_host-done.new.host) c.in-Err.refusal) c.in_ok-to.ensures.text c.in-Err.ensures.cause
