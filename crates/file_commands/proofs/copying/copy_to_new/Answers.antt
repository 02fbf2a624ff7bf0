use Rattle.std.proofs.Common.{ℕ, sym, subst}
use Rattle.std.proofs.lemmas.Result.{err_from_is_err_and}
use Rattle.file_commands.specs.Copying.{HasBytes}
use Rattle.session.proofs.Calls.{carries_more}
use Rattle.file_commands.specs.HostCauses.{IsOfSource}
use Rattle.file_commands.proofs.HostCauses.{begin_none, err_none, not_host, work_none}
use Rattle.file_commands.proofs.copying.copy_to_new.Goals as goal

pub put_all-requires-clause-ready : goal.put_all-requires-clause-ready
put_all-requires-clause-ready g c = c.work.ensures.carries.ready

pub put_all-requires-clause-inside : goal.put_all-requires-clause-inside
put_all-requires-clause-inside g c = subst (λ (n : ℕ). HasBytes (g.H.Host.file c.args.host.now) c.args.source.now n) (sym c.in_ok-begun.ensures.done.1.0) c.requires.inside

pub finish-told-requires : goal.finish-told-requires
finish-told-requires g c = record { ready = c.put_all.ensures.carries.ready }

pub returns-in-Ok-clause-carries : goal.returns-in-Ok-clause-carries
returns-in-Ok-clause-carries g c =
    carries_more c.args.session.now c.put_all.new.session c.finish-told.new.session _ _ _
    (carries_more c.args.session.now c.work.new.self c.put_all.new.session _ _ _ c.work.ensures.carries c.put_all.ensures.carries) c.finish-told.ensures.carries

pub returns-in-Err-clause-carries : goal.returns-in-Err-clause-carries
returns-in-Err-clause-carries g c = carries_more c.args.session.now c.work.new.self c.put_all.new.session _ _ _ c.work.ensures.carries c.put_all.ensures.carries

pub returns-in_err-begun-clause-cause : goal.returns-in_err-begun-clause-cause
returns-in_err-begun-clause-cause g c =
    let f = err_from_is_err_and c.from_residual.result c.from_residual.ensures.1 in
    rw (f.1, f.2) (not_host (IsOfSource c.args.source.now) (g.H.Host.faults c.args.host.now) (g.H.Host.faults c.args.host.now) _ (work_none _ _ _ _ _ _ _ c.in_err-begun.ensures (λ x y raw why. begin_none x c.args.new.now y _ _ raw why.1)))

pub returns-in-Ok-clause-cause : goal.returns-in-Ok-clause-cause
returns-in-Ok-clause-cause g c = err_none (IsOfSource c.args.source.now) (g.H.Host.faults c.args.host.now) (g.H.Host.faults c.put_all.new.host) c.finish-told.result c.finish-told.ensures.cause
