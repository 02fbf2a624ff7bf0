use Rattle.resync.proofs.group_engine.Endings.{goes_begin}
use Rattle.relocation.proofs.steps.announce.Goals as goal

pub returns-then-bits : goal.returns-then-bits
returns-then-bits g c = let t = c.requires.takes c.requires.mounted in goes_begin c.args.m.now (g.B.Bay.state c.args.bay.now) c.requires.mounted t.0 t.1
