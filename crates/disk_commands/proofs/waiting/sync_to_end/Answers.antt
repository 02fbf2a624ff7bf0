use Rattle.session.proofs.group_engine.Causes.{calls_keep}
use Rattle.session.proofs.Keeping.{keeps_none, takes_next}
use Rattle.disk_commands.proofs.waiting.sync_to_end.Goals as goal

pub loop-init : goal.loop-init
loop-init g c = record { keeps = keeps_none c.args.m.now (g.B.Bay.state c.args.bay.now) c.requires.takes }

pub sync_slice-end-requires : goal.sync_slice-end-requires
sync_slice-end-requires g c = record { takes = takes_next c.args.m.now c.loop.m (g.B.Bay.state c.args.bay.now) (g.B.Bay.state c.loop.bay) c.loop.invariant.keeps }

pub loop-preserved : goal.loop-preserved
loop-preserved g c = record { keeps = calls_keep c.loop.invariant.keeps c.sync_slice-end.ensures.keeps }

pub returns-in_default : goal.returns-in_default
returns-in_default g c = record { keeps = calls_keep c.loop.invariant.keeps c.sync_slice-end.ensures.keeps }

pub returns : goal.returns
returns g c = record { keeps = c.loop.invariant.keeps }
