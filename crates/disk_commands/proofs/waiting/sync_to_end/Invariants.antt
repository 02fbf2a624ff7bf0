use Rattle.session.specs.group_engine.Own.{KeepsGroup}
use Rattle.disk_commands.proofs.waiting.sync_to_end.Given as goal

abbrev pub invariant-loop : goal.invariant-loop
invariant-loop g l = record { keeps : KeepsGroup l.fn.m l.m (g.B.Bay.state l.fn.bay) (g.B.Bay.state l.bay) }
