use Rattle.session.proofs.Attached.{takes_none}
use Rattle.disk_commands.proofs.disk_works.add.Goals as goal

pub returns-in-Err : goal.returns-in-Err
returns-in-Err g c = record { keeps = takes_none c.args.known.now.held.items c.args.m.now (g.B.Bay.state c.args.bay.now) c.requires.takes c.requires.apart }
