use Rattle.record_laws.proofs.group_engine.Sets.{IsFront}
use Rattle.disk_modes.proofs.records.without.Given as goal

abbrev pub invariant-loop-disk : goal.invariant-loop-disk
invariant-loop-disk l = IsFront l.left l.fn.all l.fn.gone l.disk
