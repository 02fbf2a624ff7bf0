use Rattle.std.proofs.Common.{Ok}
use Rattle.serving.specs.Programs.{TellsTurns}
use Rattle.disk_commands.specs.group_turns.Turns.{BeforeText}
use Rattle.serving.proofs.program.Program.expire_group.Given as goal

abbrev pub invariant-loop : goal.invariant-loop
invariant-loop g l = TellsTurns {T = Unit {0}} (Ok tt) BeforeText l.fn.self l.self
