use Rattle.std.proofs.Common.{inl, inr, sym, ◌∙◌}
use Rattle.file_commands.specs.HostCauses.{IsAt, IsCopied, IsOfSource}
use Rattle.file_commands.proofs.HostCauses.{err_by}
use Rattle.file_commands.proofs.copying.copy_to.Goals as goal

pub returns-then-is_host_path-clause-cause : goal.returns-then-is_host_path-clause-cause
returns-then-is_host_path-clause-cause g c = err_by (IsAt c.args.to.now) (IsCopied c.args.source.now c.args.to.now) (g.H.Host.faults c.args.host.now) (g.H.Host.faults c.copy_to_host.new.host) c.copy_to_host.result
    (λ path at. inr (at, sym c.is_host_path.ensures ∙ c.if-is_host_path.true)) c.copy_to_host.ensures.cause

pub returns-else-is_host_path-clause-cause : goal.returns-else-is_host_path-clause-cause
returns-else-is_host_path-clause-cause g c = err_by (IsOfSource c.args.source.now) (IsCopied c.args.source.now c.args.to.now) (g.H.Host.faults c.args.host.now) (g.H.Host.faults c.copy_to_group.new.host) c.copy_to_group.result (λ path here. inl here) c.copy_to_group.ensures.cause
