use Rattle.std.proofs.Common.{Err, ap}
use Rattle.file_commands.specs.HostCauses.{IsAt}
use Rattle.file_commands.proofs.HostCauses.{err_since, of_counts}
use Rattle.file_commands.proofs.copying.write_host.Goals as goal

pub returns-in-Ok-clause-cause : goal.returns-in-Ok-clause-cause
returns-in-Ok-clause-cause g c = err_since (IsAt c.args.to.now) (g.H.Host.faults c.args.host.now) (g.H.Host.faults c.create.new.self) (g.H.Host.faults c.append_all.new.host) c.append_all.result (of_counts c.args.to.now (g.H.Host.faults c.args.host.now) (g.H.Host.faults c.create.new.self) c.create.ensures.counts) c.append_all.ensures.cause

pub returns-in-Err-clause-cause : goal.returns-in-Err-clause-cause
returns-in-Err-clause-cause g c = c.host_refusal.ensures.cause (g.H.Host.faults c.args.host.now) (g.H.Host.faults c.create.new.self) (λ is. c.in-Err.ensures.cause (ap Err is))
