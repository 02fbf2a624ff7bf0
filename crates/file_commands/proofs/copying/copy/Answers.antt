use Rattle.std.proofs.Common.{inl}
use Rattle.file_commands.specs.HostCauses.{IsCopied, IsHostAt, IsHostOperand}
use Rattle.file_commands.proofs.HostCauses.{by_paths, copied, err_by, err_since}
use Rattle.file_commands.proofs.Sources.{has_all}
use Rattle.file_commands.proofs.copying.copy.Goals as goal

pub copy_to-told-requires-clause-inside : goal.copy_to-told-requires-clause-inside
copy_to-told-requires-clause-inside g c = has_all (g.H.Host.file c.open_source.new.host) c.in-Ok.source c.in-Ok.size c.in-Ok.ensures.size

pub returns-in-Ok-clause-cause : goal.returns-in-Ok-clause-cause
returns-in-Ok-clause-cause g c =
    err_since (IsHostOperand c.args.from.now c.args.to.now) (g.H.Host.faults c.args.host.now) (g.H.Host.faults c.open_source.new.host) (g.H.Host.faults c.copy_to-told.new.host) c.copy_to-told.result c.open_source.ensures.counts
    (err_by (IsCopied c.in-Ok.source c.args.to.now) (IsHostOperand c.args.from.now c.args.to.now) (g.H.Host.faults c.open_source.new.host) (g.H.Host.faults c.copy_to-told.new.host) c.copy_to-told.result (copied c.args.from.now c.args.to.now c.in-Ok.source c.in-Ok.ensures.source) c.copy_to-told.ensures.cause)

pub returns-in-Err-clause-cause : goal.returns-in-Err-clause-cause
returns-in-Err-clause-cause g c = by_paths (IsHostAt c.args.from.now) (IsHostOperand c.args.from.now c.args.to.now) (g.H.Host.faults c.args.host.now) (g.H.Host.faults c.open_source.new.host) c.in-Err.refusal (λ path at. inl at) c.in-Err.ensures.cause
