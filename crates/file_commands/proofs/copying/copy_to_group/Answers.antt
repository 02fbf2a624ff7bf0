use Rattle.std.proofs.lemmas.Result.{err_from_is_err_and}
use Rattle.file_commands.specs.HostCauses.{IsOfSource}
use Rattle.file_commands.proofs.HostCauses.{not_host, target_none}
use Rattle.file_commands.proofs.copying.copy_to_group.Goals as goal

pub returns-in_err-path-clause-cause : goal.returns-in_err-path-clause-cause
returns-in_err-path-clause-cause g c =
    let f = err_from_is_err_and c.from_residual.result c.from_residual.ensures.1 in
    rw (f.1, f.2) (not_host (IsOfSource c.args.source.now) (g.H.Host.faults c.args.host.now) (g.H.Host.faults c.args.host.now) _ (target_none c.place.result.now c.args.path.now _ c.in_err-path.ensures.cause))
