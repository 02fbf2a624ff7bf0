use Rattle.std.proofs.Common.{sym}
use Rattle.disk_modes.proofs.Checked.{all_taken}
use Rattle.disk_modes.proofs.checking.check_modes.Goals as goal

pub returns-in-None-clause-taken : goal.returns-in-None-clause-taken
returns-in-None-clause-taken c = all_taken c.args.statement c.args.disks c.args.entries.now (sym c.in-None.ensures)
