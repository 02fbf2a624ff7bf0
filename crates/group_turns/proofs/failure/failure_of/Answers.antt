use Rattle.std.proofs.Common.{sym}
use Rattle.group_turns.proofs.Failures.{failure_other}
use Rattle.group_turns.proofs.failure.failure_of.Goals as goal

pub returns-in_default : goal.returns-in_default
returns-in_default c = sym (failure_other c.args.refusal.now c.in_default.not-ReadFault c.in_default.not-WriteFault c.in_default.not-Dismounted)
