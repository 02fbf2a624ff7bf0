use Rattle.std.proofs.Common.{Err, ap}
use Rattle.std.proofs.lemmas.Result.{err_from_is_err_and}
use Rattle.file_commands.specs.HostCauses.{IsAt}
use Rattle.file_commands.proofs.HostCauses.{none_falls, not_host, of_counts, read_none}
use Rattle.file_commands.proofs.copying.append_piece.Goals as goal

pub returns-in_err-read_from-clause-counts : goal.returns-in_err-read_from-clause-counts
returns-in_err-read_from-clause-counts g c = none_falls (g.H.Host.faults c.args.host.now)

pub returns-in_err-read_from-clause-cause : goal.returns-in_err-read_from-clause-cause
returns-in_err-read_from-clause-cause g c =
    let f = err_from_is_err_and c.from_residual.result c.from_residual.ensures.1 in
    rw (f.1, f.2) (not_host (IsAt c.args.to.now) (g.H.Host.faults c.args.host.now) (g.H.Host.faults c.args.host.now) _ (read_none c.args.session.now c.args.group.now _ c.in_err-read_from.ensures.cause))

pub returns-in-Ok-clause-counts : goal.returns-in-Ok-clause-counts
returns-in-Ok-clause-counts g c = of_counts c.args.to.now (g.H.Host.faults c.args.host.now) (g.H.Host.faults c.append.new.self) c.append.ensures.counts

pub returns-in-Err-clause-counts : goal.returns-in-Err-clause-counts
returns-in-Err-clause-counts g c = of_counts c.args.to.now (g.H.Host.faults c.args.host.now) (g.H.Host.faults c.append.new.self) c.append.ensures.counts

pub returns-in-Err-clause-cause : goal.returns-in-Err-clause-cause
returns-in-Err-clause-cause g c = c.host_refusal.ensures.cause (g.H.Host.faults c.args.host.now) (g.H.Host.faults c.append.new.self) (λ is. c.in-Err.ensures.cause (ap Err is))
