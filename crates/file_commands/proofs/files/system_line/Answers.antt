use Rattle.file_commands.proofs.HostCauses.{short_out}
use Rattle.file_commands.proofs.files.system_line.Goals as goal

pub returns-in-Ok : goal.returns-in-Ok
returns-in-Ok c = record { lines = record { group = c.in_ok-m.m.now; is_group = c.in_ok-m.ensures.found; caused = c.in-Ok.ensures }; cause = tt }

pub returns-in-Err-clause-cause : goal.returns-in-Err-clause-cause
returns-in-Err-clause-cause c = short_out c.args.session.now.entries c.args.name.now
