use Rattle.disk_commands.proofs.Waits.{reply_waits}
use Rattle.disk_commands.proofs.waiting.reply_after.Goals as goal

pub returns-in-Some-clause-waited : goal.returns-in-Some-clause-waited
returns-in-Some-clause-waited g c = reply_waits c.rebalance_all-ended.new.session c.args.name.now c.rebalance_all-ended.result c.reply_of.result c.rebalance_all-ended.ensures.why c.reply_of.ensures
