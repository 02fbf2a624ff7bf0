use Rattle.session.specs.Naming.{CarriesOn}
use Rattle.disk_commands.proofs.waiting.resync_all.Given as goal

abbrev pub invariant-loop-disk : goal.invariant-loop-disk
invariant-loop-disk g l = record { carries : CarriesOn l.fn.session l.session (g.B.Bay.state l.fn.bay) (g.B.Bay.state l.bay) }
