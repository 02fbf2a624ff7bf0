use Rattle.std.specs.Prelude.{IfErr, IfOk}
use Rattle.std.proofs.lemmas.Result.{IfOk-weaker}
use Rattle.session.specs.group_engine.Commits.{StatusCause}
use Rattle.session.specs.group_contents.Creating.{NamesFile}
use Rattle.session.proofs.Calls.{new_line}
use Rattle.file_commands.proofs.HostCauses.{err_out, status_none, work_none}
use Rattle.file_commands.proofs.copying.finish.Goals as goal

pub returns-in-Ok-clause-line : goal.returns-in-Ok-clause-line
returns-in-Ok-clause-line g c = IfOk-weaker c.system_line.result _ _
    (λ lines told. new_line c.args.new.now c.args.session.now c.work.new.self _ _ (λ old result new s t. IfOk result (λ file. NamesFile old c.args.new.now file new) × IfErr result (StatusCause old new s t)) c.in-Ok.file lines (λ x y does. (x, does.0)) c.work.ensures.carries c.in-Ok.ensures.done told) c.system_line.ensures.lines

pub returns-in-Ok-clause-cause : goal.returns-in-Ok-clause-cause
returns-in-Ok-clause-cause g c = err_out c.work.new.self.entries c.args.new.now.path.group c.system_line.result c.system_line.ensures.cause

pub returns-in-Err-clause-cause : goal.returns-in-Err-clause-cause
returns-in-Err-clause-cause g c = work_none _ _ _ _ _ _ _ c.in-Err.ensures (λ x y raw why. status_none x y _ _ raw why.1)
