use Rattle.std.proofs.Common.{Err, ap, subst}
use Rattle.std.proofs.lemmas.Result.{err_from_is_err_and}
use Rattle.asm_group.specs.Names.{Bytes}
use Rattle.file_commands.specs.HostCauses.{HostFaultCause, IsAt}
use Rattle.file_commands.proofs.HostCauses.{none_falls, of_counts}
use Rattle.file_commands.proofs.Sources.{told_stays}
use Rattle.file_commands.proofs.copying.open_host.Goals as goal

pub returns-in_err-path-clause-counts : goal.returns-in_err-path-clause-counts
returns-in_err-path-clause-counts g c = none_falls (g.H.Host.faults c.args.host.now)

pub returns-in_err-path-clause-cause : goal.returns-in_err-path-clause-cause
returns-in_err-path-clause-cause g c =
    let f = err_from_is_err_and c.from_residual.result c.from_residual.ensures.1 in
    rw (f.1, f.2) (c.in_err-path.ensures.cause (g.H.Host.faults c.args.host.now) (g.H.Host.faults c.args.host.now))

pub returns-in-Ok : goal.returns-in-Ok
returns-in-Ok g c = record {
  size = told_stays (g.H.Host.file c.args.host.now) (g.H.Host.file c.size.new.self) c.in_ok-path.path.now c.in-Ok.size c.size.ensures.files c.in-Ok.ensures.size;
  counts = of_counts c.in_ok-path.path.now (g.H.Host.faults c.args.host.now) (g.H.Host.faults c.size.new.self) c.size.ensures.counts;
  source = c.in_ok-path.ensures.text;
  cause = tt;
}

pub returns-in-Err : goal.returns-in-Err
returns-in-Err g c = record {
  size = tt;
  counts = of_counts c.in_ok-path.path.now (g.H.Host.faults c.args.host.now) (g.H.Host.faults c.size.new.self) c.size.ensures.counts;
  source = tt;
  cause = subst (λ (p : Bytes). HostFaultCause (IsAt p) (g.H.Host.faults c.args.host.now) (g.H.Host.faults c.size.new.self) c.host_refusal.result) c.in_ok-path.ensures.text (c.host_refusal.ensures.cause (g.H.Host.faults c.args.host.now) (g.H.Host.faults c.size.new.self) (λ is. c.in-Err.ensures.cause (ap Err is)));
}
