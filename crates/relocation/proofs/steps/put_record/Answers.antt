use Rattle.resync.proofs.group_engine.Endings.{goes_without, on_true}
use Rattle.relocation.proofs.steps.put_record.Goals as goal

pub set_status-requires : goal.set_status-requires
set_status-requires g c = record { whole = λ is. (c.requires.takes is).0; ready = λ is. (c.requires.takes is).1; next = λ is. on_true c.may_get.result c.may_get.ensures c.if-not-may_get.false }

pub returns : goal.returns
returns g c = record { keeps = c.set_status.ensures.keeps; mounted = c.set_status.ensures.mounted; cause = c.set_status.ensures.cause }

pub returns-then-not-may_get : goal.returns-then-not-may_get
returns-then-not-may_get g c = let t = c.requires.takes c.requires.mounted in goes_without c.args.m.now (g.B.Bay.state c.args.bay.now) t.0 t.1
