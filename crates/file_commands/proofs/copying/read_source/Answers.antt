use Rattle.std.proofs.Common.{◌+◌, Err, ap, length, refl, subst, sym}
use Rattle.std.proofs.lemmas.Result.{IfErr-weaker}
use Rattle.file_commands.specs.Copying.{HasBytes}
use Rattle.file_commands.specs.HostCauses.{HostFaultCause, IsOfSource}
use Rattle.file_commands.specs.declared.copying.Source.{Source}
use Rattle.file_commands.proofs.HostCauses.{err_none, none_falls, of_counts, read_none}
use Rattle.file_commands.proofs.copying.read_source.Goals as goal

pub read-requires : goal.read-requires
read-requires g c = record { inside = subst (λ (from : Source). HasBytes (g.H.Host.file c.args.host.now) from (c.args.at + length c.args.buf.now)) c.in-Host.is c.requires.inside }

pub returns-in-Ok-clause-counts : goal.returns-in-Ok-clause-counts
returns-in-Ok-clause-counts g c = of_counts c.in-Host.path.now (g.H.Host.faults c.args.host.now) (g.H.Host.faults c.read.new.self) c.read.ensures.counts

pub returns-in-Err-clause-counts : goal.returns-in-Err-clause-counts
returns-in-Err-clause-counts g c = of_counts c.in-Host.path.now (g.H.Host.faults c.args.host.now) (g.H.Host.faults c.read.new.self) c.read.ensures.counts

pub returns-in-Err-clause-cause : goal.returns-in-Err-clause-cause
returns-in-Err-clause-cause g c =
    subst (λ (from : Source). HostFaultCause (IsOfSource from) (g.H.Host.faults c.args.host.now) (g.H.Host.faults c.read.new.self) c.host_refusal.result) (sym c.in-Host.is)
    (c.host_refusal.ensures.cause (g.H.Host.faults c.args.host.now) (g.H.Host.faults c.read.new.self) (λ is. c.in-Err.ensures.cause (ap Err is)))

pub returns-in-File-clause-files : goal.returns-in-File-clause-files
returns-in-File-clause-files g c = λ path. refl

pub returns-in-File-clause-counts : goal.returns-in-File-clause-counts
returns-in-File-clause-counts g c = none_falls (g.H.Host.faults c.args.host.now)

pub returns-in-File-clause-cause : goal.returns-in-File-clause-cause
returns-in-File-clause-cause g c = err_none (IsOfSource c.args.source.now) (g.H.Host.faults c.args.host.now) (g.H.Host.faults c.args.host.now) c.read_from.result (IfErr-weaker c.read_from.result _ _ (λ refusal why. read_none c.args.session.now c.in-File.group refusal why) c.read_from.ensures.cause)
