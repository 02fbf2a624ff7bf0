use Rattle.std.proofs.Common.{sym}
use Rattle.resync.proofs.group_engine.Endings.{on_true}
use Rattle.resync.proofs.Marks.{may_clear}
use Rattle.relocation.proofs.Chains.{on_any}
use Rattle.relocation.proofs.fitting.is_in_place.Goals as goal

pub returns-clause-copy : goal.returns-clause-copy
returns-clause-copy c = on_any _ (on_true c.is_stale.result c.is_stale.ensures c.if-not-is_stale.false)

pub returns-clause-marks : goal.returns-clause-marks
returns-clause-marks c = on_any _ (may_clear c.args.catalog.now.tables c.args.x.file c.args.x.index c.in-Some._homes (sym c.in-Some.ensures))
