use Rattle.std.proofs.Common.{Ok}
use Rattle.serving.specs.Programs.{TellsTurns}
use Rattle.disk_commands.specs.group_turns.Turns.{AfterReply}
use Rattle.serving.proofs.program.Program.slice_groups.Given as goal

abbrev pub invariant-loop-place : goal.invariant-loop-place
invariant-loop-place g l = TellsTurns {T = Unit {0}} (Ok tt) AfterReply l.fn.self l.self
