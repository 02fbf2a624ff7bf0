use Rattle.std.proofs.Common.{sym, ◌∙◌}
use Rattle.std.proofs.lemmas.Result.{IfOk-weaker, err_from_is_err_and}
use Rattle.file_commands.specs.HostCauses.{IsAt, IsHostAt}
use Rattle.file_commands.proofs.HostCauses.{err_by, none_falls, not_host, target_none, where_host}
use Rattle.file_commands.proofs.copying.open_source.Goals as goal

pub returns-then-is_host_path : goal.returns-then-is_host_path
returns-then-is_host_path g c = record {
  size = c.open_host.ensures.size;
  counts = c.open_host.ensures.counts;
  source = IfOk-weaker c.open_host.result _ _ (λ opened at. where_host c.args.path.now opened.0 (sym c.is_host_path.ensures ∙ c.if-is_host_path.true) at) c.open_host.ensures.source;
  cause = err_by (IsAt c.args.path.now) (IsHostAt c.args.path.now) (g.H.Host.faults c.args.host.now) (g.H.Host.faults c.open_host.new.host) c.open_host.result (λ path at. (at, sym c.is_host_path.ensures ∙ c.if-is_host_path.true)) c.open_host.ensures.cause;
}

pub returns-in_err-path-clause-counts : goal.returns-in_err-path-clause-counts
returns-in_err-path-clause-counts g c = none_falls (g.H.Host.faults c.args.host.now)

pub returns-in_err-path-clause-cause : goal.returns-in_err-path-clause-cause
returns-in_err-path-clause-cause g c =
    let f = err_from_is_err_and c.from_residual.result c.from_residual.ensures.1 in
    rw (f.1, f.2) (not_host (IsHostAt c.args.path.now) (g.H.Host.faults c.args.host.now) (g.H.Host.faults c.args.host.now) _ (target_none c.place.result.now c.args.path.now _ c.in_err-path.ensures.cause))

pub returns-in-Ok : goal.returns-in-Ok
returns-in-Ok g c = record { size = tt; counts = none_falls (g.H.Host.faults c.args.host.now); source = tt; cause = tt }

pub returns-in-Err : goal.returns-in-Err
returns-in-Err g c = record { size = tt; counts = none_falls (g.H.Host.faults c.args.host.now); source = tt; cause = not_host (IsHostAt c.args.path.now) (g.H.Host.faults c.args.host.now) (g.H.Host.faults c.args.host.now) c.in-Err.refusal c.in-Err.ensures.cause }
