use Rattle.session.proofs.Attached.{takes_none}
use Rattle.disk_commands.proofs.disk_works.online.Goals as goal

pub returns-in-Err : goal.returns-in-Err
returns-in-Err g c = record { keeps = takes_none c.args.held.now c.args.m.now (g.B.Bay.state c.args.bay.now) c.requires.takes c.requires.apart }
