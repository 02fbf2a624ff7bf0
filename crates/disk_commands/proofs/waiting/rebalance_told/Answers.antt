use Rattle.disk_commands.proofs.Waits.{told_waits}
use Rattle.disk_commands.proofs.waiting.rebalance_told.Goals as goal

pub returns-in-Ok : goal.returns-in-Ok
returns-in-Ok c = told_waits c.args.m.now c.args.end c.rebalance_refusal.result c.told.result c.rebalance_refusal.ensures c.requires.why c.requires.fault c.told.ensures
