use Rattle.std.specs.Prelude.{IfOk}
use Rattle.std.proofs.lemmas.Result.{IfOk-weaker}
use Rattle.session.specs.group_engine.Mounts.{MountedGroup}
use Rattle.session.specs.group_contents.Creating.{NamesFile}
use Rattle.session.proofs.Calls.{new_line}
use Rattle.file_commands.proofs.files.make_file.Goals as goal

pub returns-in-Ok-clause-line : goal.returns-in-Ok-clause-line
returns-in-Ok-clause-line g c = IfOk-weaker c.system_line.result _ _
    (λ lines told. new_line c.args.new.now c.args.session.now c.work.new.self _ _ (λ old result new s t. IfOk result (λ file. (before : MountedGroup) × NamesFile before c.args.new.now file new)) c.in-Ok.file lines (λ x y does. does) c.work.ensures.carries c.in-Ok.ensures.done told) c.system_line.ensures.lines
